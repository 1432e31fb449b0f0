pub mod Fractions
pub mod Moves
pub mod Cases

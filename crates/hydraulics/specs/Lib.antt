pub mod Inputs
pub mod Law
pub mod Settles

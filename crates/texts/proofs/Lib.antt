pub mod Once
pub mod Pieces
pub mod Placing
pub mod Lines

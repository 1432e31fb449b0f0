pub mod Once
pub mod Sizes

pub mod Once
pub mod Sizes
pub mod Texts
pub mod Worked

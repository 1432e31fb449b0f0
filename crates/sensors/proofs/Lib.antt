pub mod Mirrors
pub mod Counting
pub mod Worked
pub mod Once

pub mod Saving
pub mod Law
pub mod Worked
mod Once

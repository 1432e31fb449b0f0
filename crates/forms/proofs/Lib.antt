mod Turns
pub mod ThereAndBack
mod Once

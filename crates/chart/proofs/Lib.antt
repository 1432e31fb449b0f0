pub mod Aims
mod Differing
pub mod Fields
pub mod Lengths
pub mod Once
pub mod PageWorked
pub mod Telling
mod Turns
pub mod Worked

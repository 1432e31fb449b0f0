pub mod Exact
mod Meeting
pub mod Laws
pub mod Worked
mod Once

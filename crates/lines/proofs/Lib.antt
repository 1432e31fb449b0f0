pub mod Cases
pub mod Law
pub mod Once
pub mod Parts
pub mod Steps

pub mod Timing
pub mod Cases

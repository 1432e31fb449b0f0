pub mod Answers
pub mod Moments
pub mod Parts

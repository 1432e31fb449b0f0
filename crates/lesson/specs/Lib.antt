pub mod Answers
pub mod Replay
pub mod Parts
pub mod Writes
pub mod Cases

pub mod Rows
pub mod Cuts
pub mod Answers
pub mod Runs

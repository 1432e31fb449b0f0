pub mod Answers
pub mod Cases
pub mod Runs
pub mod Sheets

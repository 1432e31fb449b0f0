pub mod Voting
pub mod Numbers
pub mod Counts
pub mod Runs
pub mod Cases

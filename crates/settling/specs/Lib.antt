pub mod Runs
pub mod Settled
pub mod CoreRuns
pub mod WorstRuns
pub mod Sequences

pub mod Answers
pub mod Cases
pub mod Dumps
pub mod Runs
pub mod SessionS
pub mod Wires
pub mod Writes

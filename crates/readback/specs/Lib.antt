pub mod Answers
pub mod Bytes
pub mod Calls
pub mod Cases
pub mod Reads
pub mod Values

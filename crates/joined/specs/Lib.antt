pub mod Answers
pub mod Drives
pub mod Sensors
pub mod Rigs
pub mod Drawn
pub mod Cases

pub mod Answers
pub mod Late
pub mod Law
pub mod Lines
pub mod Once
pub mod Worked
pub mod Lengths

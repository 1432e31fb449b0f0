pub mod Answers
pub mod Counting
pub mod Fields
pub mod Filling
pub mod Law
pub mod Left
pub mod Once
pub mod Worked

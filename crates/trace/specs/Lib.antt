pub mod Answers
pub mod Header
pub mod Numbers
pub mod Rows
pub mod Written

pub mod Answers
pub mod Rules
pub mod Works
pub mod Laws
pub mod Loops

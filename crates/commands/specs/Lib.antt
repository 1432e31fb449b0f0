pub mod Loading
pub mod Messages
pub mod Words

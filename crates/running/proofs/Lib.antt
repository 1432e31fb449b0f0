pub mod Headers
pub mod Along
pub mod Law
pub mod Once

pub mod Constant
pub mod Entries
pub mod Exchange
pub mod Once
pub mod Weights

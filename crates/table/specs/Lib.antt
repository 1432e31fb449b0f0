pub mod Sums
pub mod Table

pub mod Law
pub mod Once
pub mod Restarts
pub mod Worked
pub mod Writing
pub mod Filling

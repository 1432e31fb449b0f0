pub mod Once
pub mod Sensors
pub mod Sizes
pub mod Texts
pub mod Named
pub mod Worked

pub mod Heard
pub mod Moving
pub mod Quiet
pub mod Sensed
pub mod Law
pub mod Settling

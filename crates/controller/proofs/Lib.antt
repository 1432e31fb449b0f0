pub mod Computing
pub mod Once
pub mod Refusals
pub mod Said
pub mod LampLaws

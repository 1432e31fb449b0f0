pub mod Converting
pub mod Cases

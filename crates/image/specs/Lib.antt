pub mod Xdr
pub mod Items
pub mod Rules
pub mod Images
pub mod Faults
pub mod Conditions
pub mod Cases

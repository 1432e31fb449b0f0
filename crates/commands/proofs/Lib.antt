pub mod NoBytes
pub mod Putting
pub mod Told
pub mod Shows

pub mod Ends
pub mod FirstRow
pub mod Starts
pub mod Kept
pub mod Lending
pub mod ByParts
pub mod Fills
pub mod Once

mod Joined
pub mod Lengths
pub mod Numbered
pub mod Once

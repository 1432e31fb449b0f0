pub mod OneWay
pub mod Exact
pub mod Taken
pub mod Decoding
pub mod Laws
pub mod Once
pub mod Worked

pub mod Reading
pub mod Fours
pub mod Ranged
pub mod Strung
pub mod Filling
pub mod Pieces
pub mod Searching
pub mod EitherForm
pub mod Faulty
pub mod Loading
pub mod Mirrors
pub mod Keeping
pub mod Exact
pub mod Uncounted
pub mod OldForm
pub mod RoundTrips
pub mod Worked
mod Once

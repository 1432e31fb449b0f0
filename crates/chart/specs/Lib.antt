pub mod Cases
pub mod Csv
pub mod Differences
pub mod Headings
pub mod Page
pub mod PageCases
pub mod Parts
pub mod Telling

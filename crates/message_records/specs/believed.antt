pub mod Ranges
pub mod Outcomes
pub mod Records
pub mod Spelling
pub mod Reading

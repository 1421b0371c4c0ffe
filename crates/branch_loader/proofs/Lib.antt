pub mod Openings
pub mod Remain
pub mod Rows
pub mod Stated
pub mod SourceRead
pub mod Following
pub mod Followed

pub mod believed
pub mod Faults
pub mod Records
pub mod Plans
pub mod Loading
pub mod Following
pub mod Followed

pub mod believed
pub mod Outcomes
pub mod Records
pub mod Reading
pub mod Faults
pub mod Laws

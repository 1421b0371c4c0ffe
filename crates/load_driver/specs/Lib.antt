-- The requests that a plan and a seed draw. Begin with `Requests`.
pub mod believed
pub mod Words
pub mod Requests
pub mod OfPlan
pub mod Counts
pub mod Faults
pub mod DriveFaults
pub mod Records
pub mod Counted
pub mod Drives

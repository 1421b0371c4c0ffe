pub mod Draw
pub mod Requests
pub mod Records
pub mod Drives

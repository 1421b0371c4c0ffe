pub mod Opening
pub mod Leftover

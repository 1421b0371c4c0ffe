pub mod Ends
pub mod Fields
pub mod Messages
pub mod Paths
pub mod Answers
pub mod Turns
pub mod Serving
pub mod Outputs

pub mod Over
pub mod Commands
pub mod Replaying
pub mod Doing
pub mod Running
pub mod Following
pub mod Sharing

pub mod Calls
pub mod Lived
pub mod ManyLived
pub mod Quiet
pub mod Reopened
pub mod Replayed
pub mod Replied
pub mod Resent
pub mod Sent
pub mod Streamed
pub mod KeepsRules
pub mod Follower
mod Begun

pub mod Matched
pub mod OwnWords
pub mod Help
pub mod Getters
pub mod LoadEnds
pub mod Printed
pub mod Filled
mod Examples
pub mod FollowEnds
pub mod Joining

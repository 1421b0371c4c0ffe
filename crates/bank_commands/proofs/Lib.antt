pub mod Endings
pub mod Told
pub mod Spared
pub mod FollowTold
pub mod Unnamed
pub mod Unwritten

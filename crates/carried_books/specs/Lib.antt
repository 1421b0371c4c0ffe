pub mod Carrying
pub mod Forward
pub mod Gathering
pub mod Gathered
pub mod ReadsTold
pub mod Held
pub mod Comparison

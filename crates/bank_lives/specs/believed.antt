pub mod Lives
pub mod ManyLives
pub mod LifeStates

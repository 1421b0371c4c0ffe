pub mod Plans
pub mod Loading

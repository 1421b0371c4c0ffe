pub mod First
pub mod Statuses

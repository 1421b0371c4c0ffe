pub mod References
pub mod SheetFaults
pub mod Sheets
pub mod Encoding
pub mod Replies
pub mod Beside
pub mod Walking

-- The audit of the tables of a bank, as a file has them, and the texts of reports.
pub mod Stored
pub mod Audit
pub mod Consistency
pub mod Lines
pub mod AuditText
pub mod Ranges
pub mod Queries
pub mod Sheet
pub mod StatementText
pub mod AllStatements
pub mod Written
pub mod Sums
pub mod Beside
pub mod Added
pub mod Calendar
pub mod Reading
pub mod Zoned

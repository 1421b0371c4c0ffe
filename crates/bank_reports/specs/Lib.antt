-- What reports of a bank in a file write.
pub mod ReportFaults
pub mod Postings
pub mod Refusals
pub mod Visitors
pub mod StatedLines
pub mod Files
pub mod Adding
pub mod Differing
pub mod Leaving
pub mod Audits
pub mod Statements
pub mod AllPostings
pub mod Gathering
pub mod Parts
pub mod AllStatements

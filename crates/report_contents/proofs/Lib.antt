-- That the audit tells of the consistency condition.
pub mod Lists
pub mod EachOrdinal
pub mod Telling
pub mod OfTables
pub mod Joined
pub mod Below
pub mod Written
pub mod OneMore
pub mod OfRows
pub mod Examples
pub mod Added
pub mod Dated

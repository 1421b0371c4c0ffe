pub mod Contents
pub mod Entries
pub mod Making
pub mod StatementAnswers
pub mod Plain
pub mod Sparing
pub mod Tables

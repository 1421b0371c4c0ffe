-- What SQL texts mean, and what they leave in tables of whole numbers. Begin with `Entries`, `Tables` and
-- `StatementAnswers`.
pub mod believed
pub mod Names
pub mod Calls
pub mod Contents
pub mod Entries
pub mod Making
pub mod StatementAnswers
pub mod Queries
pub mod Seeks
pub mod SeveralRows
pub mod Under

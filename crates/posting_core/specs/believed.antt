pub mod EndCalls
pub mod Clock
pub mod Batches
pub mod Stream
pub mod LogEntries
pub mod Tills
pub mod ByTables

-- A batch of records, judged in memory.
pub mod believed
pub mod Slots
pub mod Placed
pub mod Overlay
pub mod Judging
pub mod Batch
pub mod Room
pub mod Reads
pub mod View

-- Lemmas on the spellings, from digits up to whole records, and worked examples.
pub mod Examples
pub mod Digits
pub mod Amounts
pub mod Pieces
pub mod References
pub mod Fields
pub mod Filled
pub mod Requests
pub mod SpelledReplies
pub mod ReadReplies
pub mod FirstFaults
pub mod Prefixes
pub mod DraftedFields
pub mod Composed

pub mod Printable
pub mod Trimmed
pub mod Prefixes
pub mod Sheeted
pub mod Begun
pub mod Rowed
pub mod Placed
pub mod Decoded

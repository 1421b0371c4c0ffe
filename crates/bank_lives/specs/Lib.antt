-- The life of a counter, and what is found after any number of them. Begin with `Lives`.
pub mod believed
pub mod Replayed
pub mod Sending
pub mod Machines

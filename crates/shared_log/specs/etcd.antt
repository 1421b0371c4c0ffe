pub mod Texts
pub mod Answers
pub mod Asked
pub mod Told

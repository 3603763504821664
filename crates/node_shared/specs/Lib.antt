pub mod Home
pub mod Calls
pub mod Answers

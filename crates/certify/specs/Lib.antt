pub mod Assembled
pub mod Answer
pub mod Votes

pub mod Slot
pub mod Votes

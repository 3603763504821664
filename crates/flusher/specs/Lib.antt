pub mod Rounds
pub mod Collected

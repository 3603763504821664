pub mod Keyed
pub mod Rounds
pub mod Waiting

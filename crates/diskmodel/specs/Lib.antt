pub mod Countdowns
pub mod Disk
pub mod Gated
pub mod Kept
pub mod Memory
pub mod Outcomes
pub mod Recorded
pub mod Refusals

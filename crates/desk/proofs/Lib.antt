pub mod Groups
pub mod Runs
mod FirstGroups
pub mod Reading
mod Sound
mod Rewritten
pub mod Standing
pub mod Found
mod Stops
pub mod Checkpoints
pub mod Worlds
pub mod Answered
pub mod Openings
pub mod Stores

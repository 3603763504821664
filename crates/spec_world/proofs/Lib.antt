mod Answered
pub mod Beginning
pub mod Ballots
mod Bytes
mod Disks
pub mod GoingOn
pub mod Law
mod Moving
pub mod Orders
pub mod Recovering
pub mod Standing
pub mod Groups
pub mod Lasting
mod Agreeing
pub mod Filling
pub mod Scripts
mod Sizes
pub mod Histories
pub mod Beside
pub mod Rewriting
mod Checkpoints
mod Starting

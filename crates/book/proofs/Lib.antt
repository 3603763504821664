pub mod InFlight
pub mod Options
mod Drafts
mod Due
mod Lengths
mod Accepting
mod Flushing
mod Packs
mod Stepping
mod Queueing
mod Recording
mod Releasing
pub mod Rewriting
mod Checkpointing
mod Accepted

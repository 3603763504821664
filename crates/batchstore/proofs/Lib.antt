pub mod Members
pub mod Placed
pub mod Among
pub mod Listing
pub mod Steps
pub mod Keyed
pub mod Answering
pub mod Restored

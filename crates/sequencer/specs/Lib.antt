pub mod Sequence
pub mod Laws
pub mod ByHistory
pub mod Restored
pub mod Listing

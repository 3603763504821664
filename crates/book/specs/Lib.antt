pub mod Pending
pub mod OneDraft
pub mod Queue
pub mod Book
pub mod Steps
pub mod InFlight
pub mod Checkpoints
pub mod Showing

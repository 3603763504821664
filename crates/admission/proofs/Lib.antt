pub mod Reading
pub mod Restoring
pub mod Restored
pub mod Listing
pub mod BatchesAfter
pub mod Answering
pub mod Voting
pub mod Beginning
pub mod Looking
pub mod NewThere
pub mod HeaderVotes
pub mod HeadersAfter
pub mod HeaderComing
pub mod VoteComing
pub mod OneState
mod Beside
mod Deciding
mod Closing
mod Committing
mod Answered
mod VoteCounting
mod Heading
mod Readying

pub mod Outputs
pub mod Member
pub mod Collecting
pub mod Answers
pub mod Cluster
pub mod Threads
pub mod Applying

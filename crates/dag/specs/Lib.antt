pub mod Sets
pub mod Rows
pub mod Graph
pub mod Answer
pub mod Changes
pub mod Kept
pub mod Laws

pub mod Stock
pub mod Answer
pub mod Kept

pub mod Charter
pub mod Shared
pub mod Sets
pub mod Keys
pub mod File
pub mod Answer
pub mod Kept

pub mod Parts
pub mod Kept
pub mod Describes
pub mod Reading
pub mod Reader
pub mod Judging

pub mod Full
pub mod Kept
pub mod Lists

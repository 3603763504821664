pub mod Way
pub mod Stores

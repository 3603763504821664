pub mod Adding
pub mod Settling
pub mod Begun
pub mod Stores

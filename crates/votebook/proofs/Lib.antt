pub mod Lookups
pub mod Low
pub mod Rising

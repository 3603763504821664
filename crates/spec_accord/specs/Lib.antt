pub mod Accord
pub mod Members

pub mod Faults
pub mod Running
pub mod Script
pub mod Writing

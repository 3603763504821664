pub mod Running
pub mod Stopping
pub mod Stops

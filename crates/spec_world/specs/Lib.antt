pub mod World
pub mod Steps
pub mod Promise
pub mod Runs
pub mod Text
pub mod Lasting
pub mod Scripts

pub mod Standing
pub mod Called
pub mod Groups
pub mod Submitted
pub mod Readings
pub mod Collected
pub mod Tied

pub mod Running
pub mod Signing
mod Together
pub mod Unforged
mod Ever

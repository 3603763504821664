mod Begun
mod Flushed
pub mod Stages

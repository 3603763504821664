pub mod Loading
pub mod Proposing
pub mod Setting
pub mod Standing

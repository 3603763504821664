pub mod Supporting
pub mod Chains
pub mod Downwards
pub mod Adding

pub mod Accounting
pub mod Files
pub mod Reached
pub mod States

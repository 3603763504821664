pub mod Reporting
pub mod Reading
pub mod Adding
pub mod Checkpointed
pub mod Taking
pub mod Flushing
pub mod Collecting

pub mod Stories
pub mod Files

pub mod Bodies
pub mod Frames
pub mod Headers
pub mod Table

mod AreaTests
mod Bytes
mod Checkpoints
mod Closing
mod Drafting
mod Loops
mod Moments
mod Numbered
mod Openings
mod Packing
mod Pairs
mod Parts
mod ReadBack
mod Shapes
mod Rewritten
mod Sides
pub mod Stops
pub mod Reporting
pub mod Walks
mod Windows
mod Written

pub mod Home
pub mod Doors

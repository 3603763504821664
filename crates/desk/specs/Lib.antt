pub mod Disks
pub mod Desk
pub mod AtWorld

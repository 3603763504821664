pub mod Callers
pub mod Disks
pub mod Rounds
pub mod Starting

pub mod Beginnings
pub mod Marks
pub mod Keeping
pub mod Moves
pub mod Same

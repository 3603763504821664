pub mod ByRound
pub mod Keeping

pub mod Calls
pub mod Clock
pub mod Effects
pub mod Kept
pub mod Moments
pub mod Places
pub mod Spans
pub mod Torn

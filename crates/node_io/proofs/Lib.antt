pub mod Cutting
pub mod Digits

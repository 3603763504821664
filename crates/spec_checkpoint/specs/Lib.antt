pub mod Data
pub mod Records
pub mod Reading
pub mod Meaning
pub mod Faults
pub mod Loading
pub mod Laws

pub mod Numbers
pub mod Requests
pub mod Endings
pub mod Makers
pub mod Cutting
pub mod Reportings

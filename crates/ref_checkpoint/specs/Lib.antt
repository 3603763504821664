pub mod Faults
pub mod HeadersRead
pub mod Lists

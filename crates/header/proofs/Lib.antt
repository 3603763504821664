pub mod Failing
pub mod Naming
pub mod Passing
pub mod RisingFaults
pub mod Signing
pub mod Ranges

pub mod Answers
pub mod Checks
pub mod Digested
pub mod Making
pub mod Quorums
pub mod Signatures

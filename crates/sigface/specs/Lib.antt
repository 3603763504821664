pub mod Pair
pub mod PairBytes
pub mod Scheme
pub mod Seeds
pub mod Tied

mod Voters
pub mod Items
pub mod Ranges
pub mod Sets

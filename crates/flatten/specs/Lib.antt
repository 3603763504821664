pub mod Segments
pub mod Sets
pub mod Lengthening
pub mod Laws

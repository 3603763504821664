pub mod Cluster
pub mod Premises
pub mod Agreement

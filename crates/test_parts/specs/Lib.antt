pub mod Accords

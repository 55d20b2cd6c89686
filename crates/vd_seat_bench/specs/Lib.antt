pub mod Halves
pub mod laws

pub mod Words
pub mod Rings

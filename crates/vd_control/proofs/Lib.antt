pub mod Bits
pub mod Bytes
pub mod ComesBack
pub mod Lawful
pub mod Ones
pub mod Passing
pub mod Places
pub mod Words

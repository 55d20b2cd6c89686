pub mod Causes
pub mod Sinks
pub mod Memory

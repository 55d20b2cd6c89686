pub mod Bridges
pub mod Ports
pub mod Steps

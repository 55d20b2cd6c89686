pub mod Lines
pub mod Midway
pub mod Queues
pub mod Prepared
pub mod Outcome
pub mod Twice
pub mod ControlLines

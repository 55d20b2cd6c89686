pub mod Sent
pub mod Returned
pub mod Macs
pub mod Spelled
pub mod AnyScripts
pub mod GuestTurns
pub mod DeviceTurns
pub mod Sleeping

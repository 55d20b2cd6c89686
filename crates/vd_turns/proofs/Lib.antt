pub mod Turning
pub mod Relaying
pub mod RelayWays
pub mod ControlRelaying
pub mod ControlWays

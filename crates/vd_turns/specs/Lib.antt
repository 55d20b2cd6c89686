pub mod Draws
pub mod Turns
pub mod RelayTurns
pub mod ControlTurns

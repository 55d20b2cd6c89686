pub mod Lanes
pub mod Event

pub mod Parts
pub mod DriverEnd
pub mod DeviceEnd
pub mod Tracked
pub mod Telling
pub mod Kept
pub mod laws

pub mod Asleep
pub mod Closing
pub mod Fresh
pub mod Open
pub mod Seat

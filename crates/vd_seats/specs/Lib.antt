pub mod Rule
pub mod Seat
pub mod Closing
pub mod Asleep
pub mod Open
pub mod Two
pub mod Around
pub mod laws

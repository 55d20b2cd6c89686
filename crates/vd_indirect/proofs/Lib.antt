pub mod Walk
pub mod Written

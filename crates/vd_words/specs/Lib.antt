pub mod Plain
pub mod Step
pub mod Model
pub mod Own
pub mod laws

pub mod Through
pub mod laws

pub mod Filled
pub mod Agreeing

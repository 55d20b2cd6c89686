pub mod Ranges
pub mod Trees
pub mod Holes
pub mod Indexes

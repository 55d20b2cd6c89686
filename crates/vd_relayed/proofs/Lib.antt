pub mod Covering
pub mod OnWords
pub mod Opening

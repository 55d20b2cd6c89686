pub mod CommandLaws
pub mod GuestLaws
pub mod Laws
pub mod Pairs
pub mod Scripted

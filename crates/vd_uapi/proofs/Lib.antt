pub mod ByteLaws
pub mod FaultLaws
pub mod Inverses
pub mod MessageLaws

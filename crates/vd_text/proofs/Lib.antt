pub mod Canonical
pub mod CommandTexts
pub mod Cutting
pub mod Digits
pub mod Order

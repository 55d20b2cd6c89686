pub mod SplitWords
pub mod SplitDriver
pub mod SplitDevice
pub mod SplitRing
pub mod SplitDriverLaws
pub mod SplitLaws
pub mod SplitTableLaws
pub mod SplitDeviceLaws

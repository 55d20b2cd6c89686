pub mod Among
pub mod LapLaws
pub mod SignalLaws

pub mod OnePair
pub mod InTable
mod Walks
pub mod PlainRings
pub mod RingSteps
pub mod RingArms
mod ArmedDriver
mod ArmedDevice

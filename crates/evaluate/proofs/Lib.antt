pub mod Waits
pub mod Arming
pub mod Sound
pub mod Room
pub mod Parting
pub mod Unique
pub mod HalfCarry
pub mod Writes

pub mod Laws
pub mod Sound
pub mod Overwritten
pub mod Unique

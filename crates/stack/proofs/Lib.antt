pub mod Digits
pub mod Filling
pub mod Emptying
pub mod Laws
pub mod Sound
pub mod Unique
pub mod Kept

pub mod Writing
pub mod Parts
pub mod Listed
pub mod Bounds
pub mod Telling
pub mod Unique

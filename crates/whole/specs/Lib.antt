pub mod Parts
pub mod Inherent

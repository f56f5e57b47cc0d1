pub mod Widths
pub mod Sound
pub mod Parting
pub mod PostBytes
pub mod Refusals
pub mod Unique

pub mod Playing
pub mod Booting
pub mod Recorded
pub mod Bounds
pub mod Unique

pub mod Lines
pub mod Going
pub mod Files
pub mod Bounds
pub mod Unique

pub mod Named
pub mod Unique

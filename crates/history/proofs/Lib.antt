pub mod Rows
pub mod Stores
pub mod Chain
pub mod Theorem
pub mod History
pub mod Packed

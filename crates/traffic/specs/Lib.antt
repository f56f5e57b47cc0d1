pub mod Counts
pub mod Laws
pub mod Rows

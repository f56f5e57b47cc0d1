pub mod Entries
pub mod Sums
pub mod Small
pub mod Arms
pub mod Unique

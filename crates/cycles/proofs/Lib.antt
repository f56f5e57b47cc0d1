pub mod Arms
pub mod Bills
pub mod Unique

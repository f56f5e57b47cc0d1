pub mod Laying
pub mod Sums
pub mod Saturating
pub mod Undoing
pub mod Unique

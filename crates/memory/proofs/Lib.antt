pub mod Ranges
pub mod Folds
pub mod Unique
pub mod Places
pub mod Twelve
pub mod Fits
pub mod Words

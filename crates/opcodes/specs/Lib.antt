pub mod Manual
pub mod Places
pub mod Rows

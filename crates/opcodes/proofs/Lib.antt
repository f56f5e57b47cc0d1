pub mod Rows
pub mod Laws
pub mod Places
pub mod Reading
pub mod Unique

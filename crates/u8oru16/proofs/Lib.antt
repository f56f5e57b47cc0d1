pub mod Signed
pub mod Unique

pub mod Reading
pub mod Sections
pub mod Operations
pub mod Defaults
pub mod Unique

pub mod Layout
pub mod Line
pub mod File
pub mod Written
pub mod Promises

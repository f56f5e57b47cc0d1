pub mod Operations
pub mod Addresses
pub mod Steps

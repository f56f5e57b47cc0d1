pub mod Cycles
pub mod Bills

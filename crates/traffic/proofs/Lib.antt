pub mod Agreement
pub mod Decoding
pub mod Operations
pub mod Accesses
pub mod Reported
pub mod Ceilings
pub mod Rows

pub mod Table
pub mod Service
pub mod Waits
pub mod Laws

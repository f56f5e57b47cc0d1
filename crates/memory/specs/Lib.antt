pub mod Map
pub mod Writes
pub mod Access
pub mod Fits
pub mod Laws

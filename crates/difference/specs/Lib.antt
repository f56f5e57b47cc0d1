pub mod Differences
pub mod Compare
pub mod Laws

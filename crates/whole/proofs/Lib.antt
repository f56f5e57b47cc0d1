pub mod Weights
pub mod Signed
pub mod Pages
pub mod Decimal
pub mod Unique

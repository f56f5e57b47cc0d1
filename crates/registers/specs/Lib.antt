pub mod ConditionCodes
pub mod Arithmetic
pub mod Bought
pub mod Settings
pub mod Names
pub mod RegisterSet
pub mod Fits
pub mod Laws

pub mod Digits
pub mod Stores
pub mod Decimals
pub mod Filling
pub mod Texts
pub mod Laying
pub mod Unique

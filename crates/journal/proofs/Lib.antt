pub mod Reading
pub mod Laying
pub mod ToldEntries
pub mod Parts
pub mod Answers
pub mod Walking
pub mod Typed
pub mod Unique

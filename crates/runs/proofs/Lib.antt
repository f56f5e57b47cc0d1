pub mod Running
pub mod Loop
pub mod Laws
pub mod Back
pub mod History
pub mod Unique

pub mod PlainWrites
pub mod Decided
pub mod Passing
pub mod Laws
pub mod Accepted
pub mod Room
pub mod Parting
pub mod Unique

pub mod Machine
pub mod Effect
pub mod Record
pub mod Fence

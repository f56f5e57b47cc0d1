pub mod Sequence
pub mod History
pub mod Packed

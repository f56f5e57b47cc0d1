pub mod Entries
pub mod OneOperand
pub mod TwoOperands
pub mod Named
pub mod Fields

pub mod PostByte
pub mod Operand
pub mod Decode
pub mod Laws
pub mod Origin

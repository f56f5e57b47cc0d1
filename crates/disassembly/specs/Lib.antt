pub mod Figures
pub mod Names
pub mod Operands
pub mod Line
pub mod Disassembly
pub mod Laws

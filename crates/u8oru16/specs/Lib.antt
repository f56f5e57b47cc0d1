pub mod Signed
pub mod Value
pub mod Negated
pub mod Answers

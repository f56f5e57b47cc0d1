pub mod Numbers
pub mod Structs
pub mod Ends

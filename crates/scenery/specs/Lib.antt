-- What a line of a scene says, how its undos end, and what is printed.
pub mod Line
pub mod Printed
pub mod Undos

pub mod Lines
pub mod Mended
pub mod Printed
pub mod Laws

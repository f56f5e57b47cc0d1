pub mod Arms
pub mod Growing
pub mod Widths
pub mod Spans
pub mod Columns
pub mod Apart
pub mod Laws
pub mod Unique

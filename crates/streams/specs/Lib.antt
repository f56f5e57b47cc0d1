-- How much of a buffer was filled, and a buffer of zeros.
pub mod Counts

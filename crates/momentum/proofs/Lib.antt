-- The laws of check 11.
pub mod Least
pub mod Ratio

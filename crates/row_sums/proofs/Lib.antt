-- The laws of the sums of a row.
pub mod Rows

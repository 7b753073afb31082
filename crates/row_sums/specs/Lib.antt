-- The terms of A and B of check 12.
pub mod Terms

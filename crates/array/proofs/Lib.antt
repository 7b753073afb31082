-- The laws that the proofs over arrays share.
pub mod Filling
pub mod Replacing

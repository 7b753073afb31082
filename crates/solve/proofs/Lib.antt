-- The laws that the proofs of this crate share.
pub mod Commands
pub mod Bounds
pub mod Answers

-- The laws that the proofs of this crate share, and those of what it leaves.
pub mod Small

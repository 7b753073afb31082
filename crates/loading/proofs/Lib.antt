-- The laws that the proofs of this crate share, and what its arrays hold.
pub mod Tables

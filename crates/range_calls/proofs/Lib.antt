-- The laws that the proofs of this crate share.
pub mod Order
pub mod Within

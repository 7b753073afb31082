-- What the proofs of probe share.
pub mod Answers

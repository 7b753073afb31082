-- The runs, and what is computed of them.
pub mod Cases

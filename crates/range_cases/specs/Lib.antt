-- The cases, and what is computed of them.
pub mod Cases

-- The checks.
pub mod Computed

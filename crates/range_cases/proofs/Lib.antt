-- The check.
pub mod Computed

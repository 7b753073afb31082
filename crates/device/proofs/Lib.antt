-- The theorems on every run.
pub mod Runs
pub mod Period
pub mod Apart

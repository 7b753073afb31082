-- The laws that other crates cite.
pub mod Largest
pub mod Distance
pub mod Zero
pub mod Whole
pub mod Sizes
pub mod Prefix
pub mod Sample

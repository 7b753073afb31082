-- The laws that other crates cite.
pub mod Whole
pub mod Fits
pub mod Answer
pub mod Image
pub mod Entries
pub mod ByKind
pub mod Digits
pub mod Limits
pub mod Reach

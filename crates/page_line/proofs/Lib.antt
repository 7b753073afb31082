-- The laws that other crates cite.
pub mod Written
pub mod Kept
pub mod Fields

-- The laws that other crates cite.
pub mod Effects
pub mod Length
pub mod Call
pub mod Fields
pub mod Reach

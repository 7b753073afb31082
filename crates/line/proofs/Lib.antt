-- The laws that other crates cite.
pub mod Laws
pub mod Digits

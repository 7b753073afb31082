-- The laws that other crates cite.
pub mod Laws
pub mod Listed
pub mod Sized
pub mod Limits
pub mod Word
pub mod Numbers

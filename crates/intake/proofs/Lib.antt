-- The laws that other crates cite.
pub mod Call
pub mod Laws
pub mod Stop

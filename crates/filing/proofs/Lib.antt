-- The laws.
pub mod Says
pub mod Filed

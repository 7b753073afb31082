-- The laws that other crates cite.
pub mod Accept
pub mod Demand
pub mod Order
pub mod Extremes
pub mod Dominance
pub mod Step
pub mod Guaranteed
pub mod Prefix
pub mod Stop

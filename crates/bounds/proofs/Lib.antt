-- The law of what an iteration of the error bounds leaves.
pub mod Small

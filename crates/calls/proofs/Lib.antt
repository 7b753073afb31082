-- The laws of the checks of a call.
pub mod Within

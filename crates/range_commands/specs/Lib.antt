-- What the contract of an iteration of both ends cites.
pub mod Steps

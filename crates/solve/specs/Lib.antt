-- What the contracts of a solve cite.
pub mod Reached

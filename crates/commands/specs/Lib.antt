-- What the contracts of an iteration of the commands cite.
pub mod Steps

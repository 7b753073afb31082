-- What the contracts of an iteration of the error bounds cite.
pub mod Steps

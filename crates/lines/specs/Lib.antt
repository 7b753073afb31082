-- What the contracts and the laws of lines cite.
pub mod Lines

-- What the contracts of hex cite.
pub mod Hex
pub mod Examples

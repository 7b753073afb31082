-- What the contracts and the laws of text cite.
pub mod Text
pub mod Examples

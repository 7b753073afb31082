-- What the contracts and the laws of frame cite.
pub mod Frame
pub mod Laws
pub mod Sample

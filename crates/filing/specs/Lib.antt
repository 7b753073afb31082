-- What the laws of filing state.
pub mod Laws

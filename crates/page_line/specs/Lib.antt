-- What the contracts and the laws of page_line cite.
pub mod Effect
pub mod Laws
pub mod Examples

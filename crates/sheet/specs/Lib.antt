-- What the contracts and the laws of sheet cite.
pub mod Sheet
pub mod Reading
pub mod Laws
pub mod Sample

-- What contracts and laws cite.
pub mod Double
pub mod Examples
pub mod Sides
pub mod Nearest

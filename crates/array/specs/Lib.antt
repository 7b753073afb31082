-- What the contracts of the arrays cite.
pub mod Arrays

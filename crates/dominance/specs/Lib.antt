-- A sum over a row.
pub mod Others

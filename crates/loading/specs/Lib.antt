-- What the contracts of the tables as arrays cite.
pub mod Tables

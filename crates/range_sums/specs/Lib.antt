-- What the contracts of a row's lowest and highest sum cite.
pub mod Ends

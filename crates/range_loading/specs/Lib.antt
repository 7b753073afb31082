-- What the contracts of the linear terms of ranges cite.
pub mod Tables

-- What the contracts of the sums cite, and the orders in which a sum can be taken.
pub mod Sums
pub mod Tree

-- What the contracts of the sum of |M| × q cite.
pub mod Sums

-- What the proofs of page_text share, and its law: how many bytes decide what is printed.
pub mod Printed
pub mod Enough

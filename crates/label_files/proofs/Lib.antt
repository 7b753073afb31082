-- The laws of the files.
pub mod Form

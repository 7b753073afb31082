-- What the contracts and the laws of word_file cite.
pub mod WordFile
pub mod Examples

-- What the contracts and the laws of label_files cite.
pub mod Files

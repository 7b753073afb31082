-- What the contracts and the laws of label_text cite.
pub mod Label

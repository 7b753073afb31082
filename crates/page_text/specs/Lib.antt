-- What the contracts and the laws of page_text cite.
pub mod Text

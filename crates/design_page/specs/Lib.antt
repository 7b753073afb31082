-- What the contracts and the laws of design_page cite.
pub mod Page

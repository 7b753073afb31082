-- The definitions of today but for a request, and what document 02 says of what was before.
pub mod Version
pub mod Former
pub mod Laws

-- The laws that docs cite.
pub mod Calls
pub mod Due
pub mod Sheets
pub mod Laws
pub mod Distance
pub mod MoreSteps

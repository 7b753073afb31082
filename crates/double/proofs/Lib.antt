-- The laws that other crates cite, and those that several functions' proofs cite.
pub mod Signs
pub mod Nearest
pub mod Rules
pub mod FromFloor
pub mod Value
pub mod Scale
pub mod Edge
pub mod Steps
pub mod Convert
pub mod Back
pub mod Same
pub mod Sides
pub mod Pattern

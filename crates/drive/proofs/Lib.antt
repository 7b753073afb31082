-- The laws of a drive's bytes.
pub mod Accept
pub mod Forward
pub mod Next
pub mod Writes
pub mod OneHead
pub mod Held
pub mod Cleared
pub mod AllHeads
pub mod Step
pub mod Run
pub mod Apart
pub mod Parts

-- The bytes of a drive, the calls on them, the drive that they hold, and what is said of every run.
pub mod Layout
pub mod Move
pub mod Calls
pub mod Held
pub mod Parts
pub mod Run
pub mod Apart

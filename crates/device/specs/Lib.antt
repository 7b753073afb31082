-- Requests 9 to 11: a drive as a value, the calls on it, a run of them, what its log tells, a period's sweeps, and what each head depends on.
pub mod Solver
pub mod Device
pub mod Call
pub mod Run
pub mod Log
pub mod Period
pub mod Apart

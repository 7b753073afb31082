-- The calls on an image as definitions: their numbers, their answers, and demand 3 and request 8 on bytes.
pub mod Tables
pub mod Calls
pub mod Accepted
pub mod Demand
pub mod Stop
pub mod Optimum

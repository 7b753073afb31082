-- What the contracts and the laws of intake cite.
pub mod Intake
pub mod Stop
pub mod Sample

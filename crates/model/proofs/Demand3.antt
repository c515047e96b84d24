-- Demand 3 for every list of events.
pub mod Checks
pub mod Suitable
pub mod Lines
pub mod Choice
pub mod Until
pub mod History
pub mod Gains
pub mod Zeros
pub mod Current
pub mod Cancel
pub mod Agrees
pub mod Proof
pub mod OneEntry
pub mod Premises
pub mod GroupPremises
pub mod CancelPremises
pub mod ReportPremises

-- Demand 1 for every book and record.
pub mod Proof
pub mod Premises

-- Runs on constants, evaluated by the checker.
pub mod Computes
pub mod Accepted
pub mod Refused
pub mod Values

-- Proofs about the definitions in specs/: nothing here has to be taken on trust.
pub mod Examples
pub mod Ledger
pub mod Demand3
pub mod Demand1
pub mod Legal
pub mod Image

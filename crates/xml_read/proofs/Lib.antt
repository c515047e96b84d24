-- Why the two readers meet their contracts: one law for each way through them.
pub mod Forms
pub mod Units
pub mod Nested

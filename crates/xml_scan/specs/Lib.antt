-- What the proofs of the scan cite beyond xml_model.
pub mod Ranges
pub mod Attributes
pub mod Classes

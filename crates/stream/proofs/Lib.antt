-- Bytes that are known, taken of an input or written to an output in several steps.
pub mod Steps

-- The text of a line: its bytes, and how many digits its numbers have.
pub mod Lines
pub mod Digits

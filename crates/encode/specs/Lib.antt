-- The bytes of a record from its numbers, and that they decode to the same numbers.
pub mod Record

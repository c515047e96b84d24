-- A search by an iterator, and the definitions' search; the value of an attribute; a number that no role has.
pub mod Search
pub mod Looks
pub mod Unnamed

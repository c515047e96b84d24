-- What follows for whoever calls the library again and again: a call finds the book that the one before it left, and the calls
-- agree with one another.
pub mod Pieces
pub mod Same
pub mod Started
pub mod Stands

-- The bytes of the pieces of an image, and how many there are.
pub mod Pieces
pub mod Sizes

-- Putting a line into a buffer does not change the buffer's length.
pub mod Kept

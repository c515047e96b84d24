-- Reads are answered one after another.
pub mod Reading

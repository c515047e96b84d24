-- What the functions that read a text by calling each other are to show.
pub mod Nesting
pub mod Results

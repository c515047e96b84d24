-- What a valid header says about the bytes, the records of each version, and the loops that read the tables and set the marks.
pub mod Versions
pub mod Header
pub mod Tables
pub mod Older

-- What stands beside the book for speed.
pub mod Rows
pub mod Mapped
pub mod Ends
pub mod Places

-- What holds of the tables.
pub mod Places

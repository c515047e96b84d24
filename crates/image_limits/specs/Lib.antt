-- What a look-up in the used slots of the table of assets gives.
pub mod Positions

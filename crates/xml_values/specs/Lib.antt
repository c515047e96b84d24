-- What the code's numbers are: natural numbers that stay at 10^12.
pub mod Saturated

-- A use of one entry, why its sums fit 32 bits, and when none is due.
pub mod Uses
pub mod Room
pub mod Due

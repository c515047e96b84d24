-- What a turn of the run program leaves, and why the turns over any reads print what the whole input would.
pub mod Turn
pub mod Kept
pub mod Zeros
pub mod Loop
pub mod Load

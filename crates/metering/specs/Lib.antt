-- Good lists, and what is recorded.
pub mod Good
pub mod Recording

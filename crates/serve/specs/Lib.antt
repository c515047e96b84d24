-- What the run program writes for what it reads.
pub mod Answers

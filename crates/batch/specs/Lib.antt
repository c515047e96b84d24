-- What answering a block leaves, how far it is answered, what is kept beside the book, and the cases of a record.
pub mod Block
pub mod Progress
pub mod NextExpiry
pub mod StepCases

-- What the ledger adds up to, and the invariant that ties it to the book.
pub mod Facts
pub mod Sums
pub mod Marks
pub mod Figures
pub mod Invariant
pub mod Reports
pub mod Concrete
pub mod WellFormed
pub mod Steps
pub mod Bounded

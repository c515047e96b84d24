-- Every event on a legal book leaves a legal book.
pub mod Facts
pub mod Rules
pub mod Meters
pub mod Events
pub mod Step
pub mod Exact
pub mod Blanked
pub mod Renewed
pub mod Marked

-- Demand 2: what is written reads back.
pub mod Header
pub mod Marks
pub mod RoundTrip

-- The lines of the usage report.
pub mod Report

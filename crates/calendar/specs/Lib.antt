-- The table of month starts.
pub mod MonthStarts

-- Look-ups among the used slots of the table of assets.
pub mod Used

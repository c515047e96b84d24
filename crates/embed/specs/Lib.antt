-- What a call returns and leaves.
pub mod ByValue
pub mod Calls
pub mod Failure
pub mod FromXml
pub mod One
pub mod Seen

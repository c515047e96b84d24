-- Order 1 of document 02: what a rights object in XML is answered, for every byte string.
pub mod Shapes
pub mod Codes
pub mod Repeat
pub mod Bytes
pub mod Tags
pub mod Elements
pub mod Calendar
pub mod Values
pub mod State
pub mod Text
pub mod Import

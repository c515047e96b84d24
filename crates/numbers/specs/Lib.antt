-- General definitions, and laws about them.
pub mod Bits
pub mod Buffer
pub mod Count
pub mod Fields

-- Laws of the definitions in specs/.
pub mod Codes
pub mod OneNumber

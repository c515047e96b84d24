-- Laws of the definitions in specs/ and of text values.
pub mod Numbers

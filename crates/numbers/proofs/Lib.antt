-- Laws of the definitions in specs/, and of lists, tests and tables in general.
pub mod Tests
pub mod TableLaws
pub mod Loops
pub mod ListLaws
pub mod BitLaws
pub mod FieldLaws
pub mod BufferLaws
pub mod OneResult

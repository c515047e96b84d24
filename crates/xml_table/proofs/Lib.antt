pub mod Numbers
pub mod Table
pub mod Names
pub mod OneResult

-- That the contracts which are relations allow one result, and that the table of classes agrees with the definitions.
pub mod OneResult
mod ClassTable

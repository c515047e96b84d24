-- That the contracts which are relations allow one result.
pub mod OneResult

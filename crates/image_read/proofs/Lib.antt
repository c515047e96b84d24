pub mod Stages
pub mod OneResult

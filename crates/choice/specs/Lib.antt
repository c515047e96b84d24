-- What a begin reaches, and which entry it gets.
pub mod Reach
pub mod Best
pub mod Choice
pub mod Row

-- What a book holds, as numbers.
pub mod Views

-- A rights object in XML to the image of its book.
pub mod Imported
pub mod Results
pub mod ImportLaws

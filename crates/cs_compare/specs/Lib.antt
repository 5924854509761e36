-- What a comparison answers and refuses, and what is written of it and of the texts of documents.
pub mod Compared
pub mod Refused
pub mod Written

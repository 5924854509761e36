-- Which comments are the texts of definitions and fields.
pub mod Comments
pub mod Views

-- What notes are put into a schema's document, and what a schema is without its notes.
pub mod Described
pub mod Plain
pub mod Meaning

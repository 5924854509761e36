-- What is asked of the formats of reasons.
pub mod Formats

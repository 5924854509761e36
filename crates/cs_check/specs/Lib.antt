-- What is told of sources, and of a schema.
pub mod Told
pub mod SchemaFaults

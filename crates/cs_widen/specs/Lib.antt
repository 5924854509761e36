-- The source that sources stand for in a profile; what it means, read as the sources are written; and schemas.
pub mod Meant
pub mod Direct
pub mod Asked
pub mod Embedding
pub mod Conditional
pub mod Schemas

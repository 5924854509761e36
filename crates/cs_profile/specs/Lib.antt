-- What a schema is, what it asserts, and which documents are schemas of the profile.
pub mod Keywords
pub mod Constraint
pub mod Validity
pub mod Loops
pub mod Shapes
pub mod Places
pub mod Profile
pub mod Trim
pub mod Root
pub mod SchemaDocument
pub mod Refusal
-- for contracts of private functions and proofs alone
pub mod Values
pub mod ValueNames
pub mod Numbered

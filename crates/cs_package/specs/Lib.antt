-- Resolved expressions, environments, and what packages are.
pub mod Expression
pub mod Environment
pub mod Joined
pub mod Height
pub mod View
pub mod Inside
pub mod Labels
-- for contracts of private functions and proofs alone
pub mod Code

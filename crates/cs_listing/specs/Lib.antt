-- The kinds of documents that instances of definitions can have.
pub mod Kinds
-- for contracts of private functions and proofs alone
pub mod ByKind

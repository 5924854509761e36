-- The values of a document, and its items.
pub mod Nodes
pub mod Items
pub mod Listed
pub mod View
-- for contracts of private functions and proofs alone
pub mod Sorted
pub mod Code
pub mod Packed
pub mod Pushed

-- What samples are.
pub mod Sample
-- for contracts of private functions and proofs alone
pub mod Answers
pub mod Kept

-- Which documents are sampled.
pub mod Sampled
-- for contracts of private functions and proofs alone
pub mod Sound

-- What the proofs of this crate show of comments.
pub mod Runs
mod Samples

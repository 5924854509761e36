-- Lemmas of samples.
pub mod Kept

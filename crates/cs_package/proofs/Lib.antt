-- What the proofs of this crate show: a package's calls read its environment, place by place and name by name (`found_at`,
-- `found_nowhere` in `Environments`, by induction on the table).

-- environments; shapes as expressions
pub mod Environments
pub mod Views
-- what expressions are made of
pub mod Simples
-- samples
mod Samples
mod LabelSamples

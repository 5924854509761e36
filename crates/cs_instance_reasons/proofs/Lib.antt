-- What the proofs of this crate show: each value that is no instance of a rule has a cause (`refused_for_a_cause` in `Caused`), what chains of causes lead
-- to is refused and is where their ways say (`refused_is_false`, `refused_at` in `Refusals`), and what is told over a table of verdicts tells why the
-- document is no instance (`explained` in `Explained`).

-- why a document is no instance
pub mod Leaves
pub mod Refusals
pub mod Caused
pub mod Carried
pub mod Whys
pub mod Reached
pub mod Traced
pub mod Told
pub mod Seen
pub mod Closest
pub mod Explained
-- causes, one after another
pub mod Tellings
pub mod Labelled
pub mod AllCauses
pub mod Refused
-- samples
mod WhySamples

-- What the proofs of this crate show: a step whose parts are well founded has one solution (`some`, `only` in `OneMeaning`).

-- facts of each element of a list, the documents directly inside one with their induction, and the law of one meaning
pub mod Each
pub mod Children
pub mod OneMeaning
-- maps and `Doc`s beside the documents that they stand for
pub mod Entries
pub mod Maps
pub mod Views
-- samples
pub mod SampleDocuments
mod Samples

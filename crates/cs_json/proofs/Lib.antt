-- What the proofs of this crate show: the text of a document is read again as that document (`reads_back` in `Documents`, by induction
-- on the document, on the statements of `serde_json` and `json`).

-- documents beside values of JSON
pub mod Documents
-- texts that are read into items
pub mod Integers
pub mod Entries
pub mod PutMembers
pub mod Nodes
pub mod Additions
pub mod Reading
pub mod Turns
-- samples, and what an answer unfolds to compute a text
pub mod OnLiterals
mod Samples

-- What the proofs of this crate show: what the reader finds is what the document is (`was_read`, `refused_by_walk`, `refused_by_name` in
-- `Reader`), and the writer's members are the document's (`document_put` in `Writing`).

-- places, and faults below a place
pub mod Escapes
pub mod Placed
-- keywords, references and texts as they are read
pub mod Keyed
pub mod Named
pub mod Seen
pub mod Walks
pub mod Slots
-- the writer, and the reader's answers
pub mod Writing
pub mod Reader

-- What the proofs of this crate show: a schema document has one validity (`one_meaning` in `Meanings`, by induction on the document, then on
-- chains of direct references, then on the schema), ranks and loops are heights and cycles of numbers (`ranks_named`, `loop_named` in
-- `Ranked`), and trimming changes no verdict (`keeps_validity` in `TrimLaw`).

-- schemas, keywords and definitions as documents
pub mod Views
pub mod Names
pub mod Slots
pub mod Definitions
-- what a schema asks rests on its parts; chains end; one meaning
pub mod Locality
pub mod Chains
pub mod Meanings
pub mod Unfolded
-- the walk over a schema: faults, and names that are defined
pub mod Walks
pub mod Taken
pub mod Faultless
pub mod Vocabularies
pub mod Profiles
pub mod Defined
-- trimming: what is trimmed stays, what trimming leaves as it is, the law
pub mod Trimmed
pub mod Referring
pub mod TrimLaw
-- the graph of definitions, ranks and loops
pub mod Pushes
pub mod Numbers
pub mod Ranked
-- samples
pub mod Rows
pub mod Samples
pub mod WalkSamples

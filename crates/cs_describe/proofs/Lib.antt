-- What the proofs of this crate show: notes change nothing of a schema document but its notes (`document_same` in `Unchanged`), and two schema
-- documents that are the same without notes validate the same, and so does each schema by their definitions (`same_validity` and
-- `same_definitions` in `PlainLaw`).

-- members and elements, one after another; a map and a list that are made from others
pub mod Joined
pub mod Left
-- which keywords are notes
pub mod Leaving
-- what notes leave as it is
pub mod Unchanged
-- a schema document without its notes: its definitions, their references, what they ask
pub mod PlainDefined
pub mod PlainLoops
pub mod PlainLaw
-- how deep documents nest; a schema with notes, and one without
pub mod Levels
pub mod Nested
-- a schema of the profile with descriptions, and one without defaults
pub mod StillSchema
pub mod StillBare
mod Samples

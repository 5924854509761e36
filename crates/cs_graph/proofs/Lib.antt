-- What the proofs of this crate show: when the walk has done all numbers they have their heights and there is no cycle (`heights_are`,
-- `falls_of`, `acyclic_of` in `AllDone`), and a path that comes to one of its own numbers is a cycle (`closes` in `Paths`).

-- lists, chains and cycles
pub mod Places
pub mod Paths
-- the cycle that is reported, from its lowest number on
pub mod Tails
pub mod Turning
-- graphs whose numbers stand for names, for the crates above
pub mod Named
-- the walk: marks, steps, the end
pub mod Marks
pub mod Frames
pub mod AllDone
-- samples
pub mod Samples

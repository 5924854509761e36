-- What the proofs of this crate show: heights and cycles of numbers are those of names (`ranks_by_name`, `cycle_by_name` in `Numbers`), heights
-- of at most 64 guard (`guarded_of` in `Heights`), a walk down them finds a longest chain (`Descents`), and `reachable` finds exactly what is reachable (`walked` in `Walks`).

-- chains of strong references, heights, numbers and names
pub mod Chains
pub mod Heights
pub mod Numbers
pub mod Descents
-- which references a walk over an expression takes: strong ones, or all
pub mod Takes
pub mod Ways
-- the graph of a package
pub mod Pushes
pub mod GraphRows
-- the walk over what is reachable
pub mod Finds
pub mod Walks
-- samples
pub mod Samples
pub mod EarlierSamples

-- What the proofs of this crate show: a judge of numbered rules answers what the rules ask, by the verdicts on their parts.

pub mod Judged
pub mod Foretold
pub mod Decided
-- marks, and classes of scalars by them
pub mod Marked
pub mod Placed
-- lists that grow, for the numbering of rules
pub mod Lists
pub mod Waiting
-- lists in another order
pub mod Permutations
-- samples
mod Samples

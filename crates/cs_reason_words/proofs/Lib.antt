pub mod Pointers
pub mod LineEnds
-- samples
mod Samples

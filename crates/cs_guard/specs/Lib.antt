-- What refers to what, and which environments are guarded.
pub mod References
pub mod Limits
pub mod LongChains
pub mod Guarded
pub mod Cycles
pub mod Numbered
pub mod Reachable
pub mod Earlier
-- for contracts of private functions and proofs alone
pub mod Ranks
pub mod Pushed
pub mod Taken
pub mod Found
pub mod Descent

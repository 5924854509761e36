-- Graphs of numbers, their chains and their heights.
pub mod Chains
pub mod Graph
-- for contracts of private functions and proofs alone
pub mod Paths
pub mod Walk

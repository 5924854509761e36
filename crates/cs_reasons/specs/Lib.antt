-- Why a pair of an item and a rule is refused, and what is told of it.
pub mod Reasons
pub mod Told
-- for contracts of private functions and proofs alone
pub mod Bits
pub mod Marked
pub mod Reached
pub mod Listed
pub mod Passed
pub mod Followed
pub mod Closest
pub mod Costs

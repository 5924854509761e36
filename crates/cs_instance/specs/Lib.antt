-- What an instance is, and the rules that documents are judged by.
pub mod Constraint
pub mod Instance
pub mod Numbering
pub mod Rules
pub mod Judging
pub mod Refusal
pub mod Rooted
pub mod Earlier
-- for contracts of private functions and proofs alone
pub mod Steps
pub mod Props
pub mod Looks
pub mod Kinds
pub mod Told
pub mod Keys
pub mod Placing
pub mod Ranked
pub mod Faults

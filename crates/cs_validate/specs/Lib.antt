-- The rules that documents are judged by. What validity is, is in `cs_profile`.
pub mod Numbering
pub mod Rules
pub mod Judging
pub mod Refusal
pub mod Rooted
-- for contracts of private functions and proofs alone
pub mod Steps
pub mod Asked
pub mod Kinds
pub mod Props
pub mod Looks
pub mod Marked
pub mod Placing
pub mod Ranked

-- What the proofs of this crate show: an object's rule asks what its keywords assert (`claims_are` in `Claims`, `claims_hold` in `Asked`), validity is
-- the table of the judge (`is_judged`, `is_table` in `Verdicts`), a rule gives the same for scalars that its marks don't tell apart (`keywords_told` in
-- `Told`), and trimming changes no count of rules (`rules_trimmed` in `Trimmed`).

-- what the keywords of an object contribute, keyword by keyword
pub mod Slots
pub mod Claims
pub mod Asked
-- one judgement, and the parts named by numbers
pub mod Found
pub mod Satisfied
pub mod ByKind
-- what scalars are told apart by
pub mod Marked
pub mod Told
-- schemas get their numbers: what waits, definitions by rank, the root, the whole
pub mod Standing
pub mod ByPlace
pub mod Placed
pub mod Waits
pub mod Joined
pub mod Ordered
pub mod Waited
pub mod Root
pub mod Whole
pub mod Wholes
-- the table
pub mod Verdicts
-- counts of rules
pub mod Trimmed
-- samples
mod Samples
mod RuleRows

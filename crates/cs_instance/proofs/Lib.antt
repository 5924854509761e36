-- What the proofs of this crate show: the induction on guarded packages (`guarded-induction` in `Induction`: on the document, then on chains of
-- direct references, then on the expression), so a guarded package has one instance relation (`one_meaning` in `Meaning`), and that relation
-- is the table of the judge (`is_judged`, `is_table` in `Verdicts`).

-- what an expression asks rests on its parts; the induction; one meaning
pub mod Parts
pub mod Induction
pub mod Meaning
-- structs without `[string]`
pub mod Labels
-- one judgement, and the parts named by numbers
pub mod Found
mod Allowed
pub mod Satisfied
-- scalars that no mark tells apart
pub mod AlikeScalars
-- rules get their numbers: expressions, what waits, definitions by rank, the whole
pub mod Views
pub mod Places
pub mod Ready
pub mod Pushed
pub mod Placed
pub mod Waited
pub mod Ordered
pub mod Counted
pub mod Wholes
-- the table
pub mod Verdicts
-- maps whose keys ascend
pub mod Members
-- samples
pub mod Rows
mod Samples
mod EarlierSamples
mod Doubling
mod RuleRows

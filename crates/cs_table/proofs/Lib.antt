-- What the proofs of this crate show: a judge that looks back has one table (`only_table` in `Tables`, by induction on the item and then on the
-- rule), a verdict that is given keeps the earlier ones, and so does its bit (`Bits`). An item is judged rule by rule, whichever rules are left of
-- it (`Steps`), or takes the verdicts of an earlier one of its class (`Classes`).

pub mod Bits
pub mod Tables
pub mod Steps
pub mod Classes
-- samples
mod Samples

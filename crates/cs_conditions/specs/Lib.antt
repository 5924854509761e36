-- Conditions: what a literal says of a field that is asked for, which conditions are at fault, and what files stand for without them.
pub mod Kinds
pub mod Defaults
pub mod Known
pub mod Asked
pub mod Choice
pub mod Chosen
pub mod Faults
pub mod Having
pub mod Conditions
-- for private contracts alone
pub mod Checks

-- Defaults: where their marks may stand, which values have one, and what files stand for without the marks.
pub mod Marks
pub mod Leading
pub mod Absent
pub mod Unmarked
pub mod Widened
-- for private contracts alone
pub mod Checks

-- Selectors: which stand in files, what they ask for, the definitions that they are made, and what files stand for without them.
pub mod Having
pub mod Uses
pub mod Reached
pub mod Given
pub mod Selectors
-- for private contracts alone
pub mod Checks

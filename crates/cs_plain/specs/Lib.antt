-- Plain values that are put in the places of their names; what expressions refer to, and the bodies of definitions.
pub mod References
pub mod Bodies
pub mod Plain
pub mod Placed
pub mod Selecting
-- for private contracts alone
pub mod Checks

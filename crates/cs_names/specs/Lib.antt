-- Names: what each scope declares, by which definitions names are lifted, what files stand for without names, and which names are at fault.
pub mod Scopes
pub mod Nested
pub mod Having
pub mod Lifted
pub mod Taken
pub mod Joined
pub mod Named
pub mod Flaws
pub mod Reading
pub mod Names
-- for private contracts alone
pub mod Checks

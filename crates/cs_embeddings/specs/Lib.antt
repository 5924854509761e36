-- Embeddings: what a literal with embeddings can be, which expressions can be embedded, and what files stand for without embeddings.
pub mod Shut
pub mod Alternatives
pub mod Held
pub mod Embedded
pub mod United
pub mod Gathered
pub mod Narrowed
pub mod Joined
pub mod Clashes
pub mod Bodies
pub mod Flaws
pub mod Size
pub mod Without
-- for private contracts alone
pub mod Views
pub mod Checks
pub mod NarrowedTable
pub mod Made
pub mod ClashTable
pub mod GatheredTable
pub mod Sited
pub mod Standing

-- The texts of documents. What documents and their items are is handed on from the crates below.
pub use Rattle.cs_document.specs.Document
pub use Rattle.cs_document.specs.Opened
pub use Rattle.cs_document.specs.Inside
pub use Rattle.cs_document.specs.View
pub use Rattle.cs_document.specs.Order
pub use Rattle.cs_flat.specs.Nodes
pub use Rattle.cs_flat.specs.Items
pub use Rattle.cs_flat.specs.Listed
pub use Rattle.cs_flat.specs.View as FlatView
pub mod Texts
pub mod ReadAs
pub mod Refusal
pub mod Shown
-- for contracts of private functions and proofs alone
pub use Rattle.cs_document.specs.Equality
pub mod Listings

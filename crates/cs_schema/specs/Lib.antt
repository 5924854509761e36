-- What the reader and the writer keep. What schemas are is handed on from the crate below.
pub use Rattle.cs_profile.specs.Keywords
pub use Rattle.cs_profile.specs.Constraint
pub use Rattle.cs_profile.specs.Validity
pub use Rattle.cs_profile.specs.Loops
pub use Rattle.cs_profile.specs.Shapes
pub use Rattle.cs_profile.specs.Places
pub use Rattle.cs_profile.specs.Profile
pub use Rattle.cs_profile.specs.Trim
pub use Rattle.cs_profile.specs.Root
pub use Rattle.cs_profile.specs.SchemaDocument
pub use Rattle.cs_profile.specs.Refusal
-- for contracts of private functions and proofs alone
pub mod Reading
pub mod Writing

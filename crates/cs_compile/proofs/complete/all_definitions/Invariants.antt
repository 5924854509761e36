use Rattle.std.proofs.Common.{ℕ, ◌<◌, List, IsSome}
use Rattle.cs_document.specs.Document.{under}
use Rattle.cs_document.specs.View.{members_of}
use Rattle.cs_guard.specs.Numbered.{name_of}
use Rattle.cs_guard.specs.Reachable.{RefersTo}
use Rattle.cs_profile.specs.SchemaDocument.{definitions_view}
use Rattle.cs_compile.specs.Definitions.{definition_entries, AreDefinitionsOf, IsDeclared}
use Rattle.cs_compile.proofs.complete.all_definitions.Given as goal

abbrev pub invariant-loop-number : goal.invariant-loop-number
invariant-loop-number l = record {
  each : (i : ℕ) → i < l.number → IsSome (under (name_of l.«package» i) (definition_entries l.schemas.entries));
  alone : AreDefinitionsOf l.«package» (IsDeclared l.«package») (members_of (definitions_view l.schemas.entries));
  resolved : (i : ℕ) → i < l.number → (m : List ℕ) → RefersTo l.«package» (name_of l.«package» i) m → IsDeclared l.«package» m;
}

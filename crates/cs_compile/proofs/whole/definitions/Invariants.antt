use Rattle.std.proofs.Common.{ℕ, List, map, take, IsSome}
use Rattle.cs_document.specs.Document.{under}
use Rattle.cs_document.specs.View.{members_of}
use Rattle.cs_graph.specs.Chains.{On}
use Rattle.cs_guard.specs.Numbered.{name_of}
use Rattle.cs_profile.specs.SchemaDocument.{definitions_view}
use Rattle.cs_compile.specs.Definitions.{definition_entries, AreDefinitions}
use Rattle.cs_compile.proofs.whole.definitions.Given as goal

abbrev pub invariant-loop-number : goal.invariant-loop-number
invariant-loop-number l = record {
  each : (n : List ℕ) → On n (map (name_of l.«package») (take l.number-index l.number-items)) → IsSome (under n (definition_entries l.schemas.entries));
  alone : AreDefinitions l.«package» (name_of l.«package» l.root) (members_of (definitions_view l.schemas.entries));
}

use Rattle.std.proofs.Common.{ℕ, List, map, take}
use Rattle.std.specs.List.{flat_map}
use Rattle.cs_grammar.specs.Tree.{definitions}
use Rattle.cs_grammar.specs.View.{file_view}
use Rattle.cs_conditions.specs.Checks.{TellsKinds, TellsKindsOf}
use Rattle.cs_conditions.specs.declared.kinds.Kinds.{Kinds}
use Rattle.cs_conditions.proofs.kinds.KindTable.round.Given as goal

abbrev pub invariant-loop-file : goal.invariant-loop-file
invariant-loop-file l = (known : List ℕ → Kinds) → TellsKinds l.self known → TellsKindsOf l.next known (flat_map definitions (map file_view (take l.file-index l.files)))

use Rattle.std.proofs.Common.{◌≡◌, ◌++◌, ℕ, List, length, map, filter}
use Rattle.std.specs.Vec.Iter.{into_iter_items, into_iter_len}
use Rattle.cs_grammar.specs.View.{definition_view}
use Rattle.cs_plain.specs.Placed.{is_kept}
use Rattle.cs_plain.specs.References.{TellsTexts}
use Rattle.cs_plain.proofs.files.kept_definitions.Given as goal

-- what is kept of those that are left completes the list
abbrev pub invariant-loop-definition : goal.invariant-loop-definition
invariant-loop-definition l = record {
  long : into_iter_len l.definition-iterator ≡ length (into_iter_items l.definition-iterator);
  whole : (ss : List (List ℕ)) → TellsTexts l.gone ss → map definition_view l.kept.items ++ filter (is_kept ss) (map definition_view (into_iter_items l.definition-iterator)) ≡ filter (is_kept ss) (map definition_view l.fn.definitions.items);
}

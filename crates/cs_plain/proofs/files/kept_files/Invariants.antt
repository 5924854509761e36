use Rattle.std.proofs.Common.{◌≡◌, ◌++◌, ℕ, List, length, map}
use Rattle.std.specs.Vec.Iter.{into_iter_items, into_iter_len}
use Rattle.cs_grammar.specs.View.{file_view}
use Rattle.cs_plain.specs.Placed.{without_gone}
use Rattle.cs_plain.specs.References.{TellsTexts}
use Rattle.cs_plain.proofs.files.kept_files.Given as goal

-- what is left completes the list
abbrev pub invariant-loop-file : goal.invariant-loop-file
invariant-loop-file l = record {
  long : into_iter_len l.file-iterator ≡ length (into_iter_items l.file-iterator);
  whole : (ss : List (List ℕ)) → TellsTexts l.gone ss → map file_view l.kept.items ++ map (without_gone ss) (map file_view (into_iter_items l.file-iterator)) ≡ map (without_gone ss) (map file_view l.fn.files.items);
}

use Rattle.std.proofs.Common.{◌≡◌, ◌++◌, length, map}
use Rattle.std.specs.Vec.Iter.{into_iter_items, into_iter_len}
use Rattle.cs_grammar.specs.View.{declaration_view}
use Rattle.cs_names.proofs.Operands.{embedding_of}
use Rattle.cs_names.proofs.together.embedding.Given as goal

-- what is left completes the list
abbrev pub invariant-loop-value : goal.invariant-loop-value
invariant-loop-value l = record {
  long : into_iter_len l.value-iterator ≡ length (into_iter_items l.value-iterator);
  whole : map declaration_view l.embedding.items ++ map embedding_of (into_iter_items l.value-iterator) ≡ map embedding_of l.fn.operands.items;
}

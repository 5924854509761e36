use Rattle.std.proofs.Common.{◌≡◌, List, drop, map}
use Rattle.cs_grammar.specs.Tree.{DefinitionTree}
use Rattle.cs_grammar.specs.View.{exprs_view}
use Rattle.cs_embeddings.specs.NarrowedTable.{TellsEmbeddable}
use Rattle.cs_embeddings.specs.Flaws.{unknown, unknown_each}
use Rattle.cs_embeddings.proofs.flaws.Flaws.+names.Given as goal

abbrev pub invariant-check_names_of-loop-expr : goal.invariant-check_names_of-loop-expr
invariant-check_names_of-loop-expr l = (ds : List DefinitionTree) → TellsEmbeddable l.self ds
    → map unknown (unknown_each ds (exprs_view l.exprs)) ≡ map unknown (unknown_each ds (exprs_view (drop l.expr-index l.exprs)))

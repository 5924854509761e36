use Rattle.std.proofs.Common.{◌≡◌, drop}
use Rattle.cs_grammar.specs.View.{exprs_view}
use Rattle.cs_embeddings.specs.Narrowed as Spec
use Rattle.cs_embeddings.specs.NarrowedTable.{base_has}
use Rattle.cs_embeddings.proofs.narrowed.Base.others_narrow.Given as goal

abbrev pub invariant-loop-place : goal.invariant-loop-place
invariant-loop-place l =
    Spec.others_narrow (base_has l.self) (exprs_view l.operands) ≡ Spec.others_narrow (base_has l.self) (exprs_view (drop l.place l.operands))

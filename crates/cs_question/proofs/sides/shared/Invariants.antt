use Rattle.std.proofs.Common.{◌≡◌, ℕ, ◌<◌, Bool, map, length}
use Rattle.std.specs.Prelude.{slice_index}
use Rattle.cs_document.specs.Document.{Document}
use Rattle.cs_question.specs.Nodes.{asked_of, IsSide}
use Rattle.cs_question.proofs.sides.shared.Given as goal

abbrev pub invariant-loop-rule : goal.invariant-loop-rule
invariant-loop-rule l = record {
  long : length l.all.items ≡ l.rule-index;
  same : (J : ℕ → Document → Bool) → IsSide (map asked_of l.nodes) J → (i : ℕ) (x : Document) → i < l.rule-index → J (slice_index l.all.items i) x ≡ J (slice_index l.inner i) x;
}

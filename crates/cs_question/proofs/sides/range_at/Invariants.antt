use Rattle.std.proofs.Common.{◌≡◌, ◌&&◌, ℕ, Bool, map, take}
use Rattle.std.specs.List.{list_all}
use Rattle.cs_document.specs.Document.{Document}
use Rattle.cs_document.specs.Opened.{opened}
use Rattle.cs_instance.specs.Constraint.{outline, is_integer}
use Rattle.cs_question.specs.Nodes.{asked_of, IsSide}
use Rattle.cs_question.specs.Between.{is_between}
use Rattle.cs_question.proofs.sides.range_at.Given as goal

abbrev pub invariant-loop-part : goal.invariant-loop-part
invariant-loop-part l = (J : ℕ → Document → Bool) → IsSide (map asked_of l.nodes) J → (x : Document) → (J l.first x && list_all (λ p. J p x) (take l.part-index l.part-items)) ≡ is_integer (is_between l.limits.0 l.limits.1) (outline (opened x))

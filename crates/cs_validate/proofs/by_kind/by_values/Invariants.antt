use Rattle.std.proofs.Common.{◌≡◌, ℕ, map, drop}
use Rattle.cs_document.specs.Opened.{Opened}
use Rattle.cs_document.specs.View.{doc_view}
use Rattle.cs_rules.specs.Kinds.{either, verdict_of}
use Rattle.cs_validate.specs.Kinds.{among_by_kind}
use Rattle.cs_validate.proofs.by_kind.by_values.Given as goal

abbrev pub invariant-loop-value : goal.invariant-loop-value
invariant-loop-value l = (x : Opened ℕ) → either (verdict_of l.verdicts x) (among_by_kind (map doc_view (drop l.value-index l.values)) x) ≡ among_by_kind (map doc_view l.values) x

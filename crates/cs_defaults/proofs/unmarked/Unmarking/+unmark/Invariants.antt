use Rattle.std.proofs.Common.{◌≡◌, ℕ, Bool, List, map, take}
use Rattle.cs_grammar.specs.View.{expr_view, field_view}
use Rattle.cs_defaults.specs.Unmarked as Spec
use Rattle.cs_defaults.specs.Checks.{TellsHanding, unmarked_seen}
use Rattle.cs_defaults.proofs.unmarked.Unmarking.+unmark.Given as goal

abbrev pub invariant-unmarked_each-loop-expr : goal.invariant-unmarked_each-loop-expr
invariant-unmarked_each-loop-expr l = (has : List ℕ → Bool) → TellsHanding l.self.handing.now has → map expr_view l.unmarked.items ≡ map (λ e. Spec.unmarked has (expr_view e)) (take l.expr-index l.exprs)

abbrev pub invariant-unmarked_fields-loop-field : goal.invariant-unmarked_fields-loop-field
invariant-unmarked_fields-loop-field l = (has : List ℕ → Bool) → TellsHanding l.self.handing.now has → map field_view l.unmarked.items ≡ map (λ f. unmarked_seen has (field_view f)) (take l.field-index l.fields)

use Rattle.std.proofs.Common.{◌≡◌, ℕ, Bool, List, drop}
use Rattle.cs_grammar.specs.View.{exprs_view, fields_view}
use Rattle.cs_defaults.specs.Absent.{clashes_each, clashes_fields}
use Rattle.cs_defaults.specs.Checks.{TellsHanding, TellsRepeated}
use Rattle.cs_defaults.proofs.absent.Clashes.+clashes.Given as goal

abbrev pub invariant-check_each-loop-expr : goal.invariant-check_each-loop-expr
invariant-check_each-loop-expr l = (has : List ℕ → Bool) → TellsHanding l.self.handing.now has → clashes_each has (exprs_view l.exprs) ≡ clashes_each has (exprs_view (drop l.expr-index l.exprs))

abbrev pub invariant-check_fields-loop-field : goal.invariant-check_fields-loop-field
invariant-check_fields-loop-field l = (has : List ℕ → Bool) (absent : List (List ℕ)) → TellsHanding l.self.handing.now has → TellsRepeated l.absences.repeated absent → clashes_fields has l.absences.has_every absent (fields_view l.fields) ≡ clashes_fields has l.absences.has_every absent (fields_view (drop l.field-index l.fields))

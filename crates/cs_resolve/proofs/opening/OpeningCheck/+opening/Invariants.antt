use Rattle.std.proofs.Common.{◌≡◌, drop}
use Rattle.cs_resolve.specs.Opening.{named_fields}
use Rattle.cs_resolve.specs.Unopened.{unopened_all, unopened_fields}
use Rattle.cs_resolve.specs.Narrowed.{TellsRefinements}
use Rattle.cs_resolve.specs.Refinement.{Refinements}
use Rattle.cs_grammar.specs.View.{exprs_view, fields_view}
use Rattle.cs_resolve.proofs.opening.OpeningCheck.+opening.Given as goal

abbrev pub invariant-check_all-loop-operand : goal.invariant-check_all-loop-operand
invariant-check_all-loop-operand l = (rs : Refinements) → TellsRefinements l.self.bases.now rs → unopened_all rs l.demanded (exprs_view l.operand-items) ≡ unopened_all rs l.demanded (exprs_view (drop l.operand-index l.operand-items))

abbrev pub invariant-check_fields-loop-field : goal.invariant-check_fields-loop-field
invariant-check_fields-loop-field l = (rs : Refinements) → TellsRefinements l.self.bases.now rs → unopened_fields rs l.demanded (named_fields (fields_view l.field-items)) (fields_view l.field-items) ≡ unopened_fields rs l.demanded (named_fields (fields_view l.field-items)) (fields_view (drop l.field-index l.field-items))

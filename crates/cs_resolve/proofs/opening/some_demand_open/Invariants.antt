use Rattle.std.proofs.Common.{◌≡◌, drop}
use Rattle.std.specs.List.{list_any}
use Rattle.cs_resolve.specs.Opening.{named_fields, values}
use Rattle.cs_resolve.specs.Unopened.{demands_open}
use Rattle.cs_resolve.specs.Checks.{TellsLabels}
use Rattle.cs_grammar.specs.View.{fields_view}
use Rattle.cs_resolve.proofs.opening.some_demand_open.Given as goal

abbrev pub invariant-loop-field : goal.invariant-loop-field
invariant-loop-field l =
    let all = named_fields (fields_view l.field-items) in
    TellsLabels l.repeats all → list_any (λ n. demands_open (values n.name all)) all ≡ list_any (λ n. demands_open (values n.name all)) (named_fields (fields_view (drop l.field-index l.field-items)))

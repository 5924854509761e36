use Rattle.std.specs.Prelude.{◌≡◌, map, IfOk}
use Rattle.std.proofs.Common.{subst}
use Rattle.std.specs.List.{filter_map}
use Rattle.cs_package.specs.View.{expression_of}
use Rattle.cs_profile.specs.SchemaDocument.{schema_view}
use Rattle.cs_compile.specs.Translation.{lower_limit, greatest_of, interval_schema}
use Rattle.cs_compile.proofs.intervals.interval.Goals as goal

pub returns : goal.returns
returns c = λ ns.
    let lower = greatest_of (filter_map lower_limit (map (expression_of ns) c.args.operands.now)) in
    subst (λ u. IfOk c.between.result (λ s. schema_view s ≡ interval_schema lower u)) (c.least_upper.ensures.limit ns)
    (subst (λ l. IfOk c.between.result (λ s. schema_view s ≡ interval_schema l c.least_upper.result)) (c.greatest_lower.ensures.limit ns) c.between.ensures)

use Rattle.std.proofs.Common.{◌++◌, map, take, sym, ◌∙◌, subst}
use Rattle.std.proofs.lemmas.List.{take_all}
use Rattle.cs_grammar.specs.View.{definition_view}
use Rattle.cs_conditions.specs.Checks.{TellsDefaultsOf}
use Rattle.cs_conditions.specs.Known.{default_known}
use Rattle.cs_conditions.proofs.Bodies.{definition_more}
use Rattle.cs_conditions.proofs.defaults.add_defaults.Goals as goal

pub loop-definition-preserved : goal.loop-definition-preserved
loop-definition-preserved c all ds told held =
    let xs = c.deref-definition-items.result.now in
    let i = c.loop-definition.definition-index in
    let d = c.definition-item.result in
    let more = definition_more ds xs i d c.loop-definition-test.true c.definition-item.is in
    subst (λ es. TellsDefaultsOf c.add_default.new.table (default_known all) es) (sym more)
    (c.in_ok-add_default.ensures all (ds ++ map definition_view (take i xs)) (definition_view d) told (c.loop-definition.invariant all ds told held) (sym c.deref.ensures))

pub returns : goal.returns
returns c all ds told held =
    let xs = c.deref-definition-items.result.now in
    subst (λ ys. TellsDefaultsOf c.loop-definition.table (default_known all) (ds ++ map definition_view ys))
    (take_all c.loop-definition.definition-index xs c.loop-definition-test.false ∙ c.deref-definition-items.ensures.value) (c.loop-definition.invariant all ds told held)

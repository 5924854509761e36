use Rattle.std.proofs.Common.{◌++◌, map, take, sym, ◌∙◌, subst}
use Rattle.std.proofs.lemmas.List.{take_all}
use Rattle.cs_grammar.specs.View.{definition_view}
use Rattle.cs_conditions.specs.Checks.{TellsKindsOf}
use Rattle.cs_conditions.proofs.Bodies.{definition_more}
use Rattle.cs_conditions.proofs.kinds.KindTable.add_bodies.Goals as goal

pub loop-definition-preserved : goal.loop-definition-preserved
loop-definition-preserved c known ds tells told =
    let xs = c.deref-definition-items.result.now in
    let i = c.loop-definition.definition-index in
    let more = definition_more ds xs i c.definition-item.result c.loop-definition-test.true c.definition-item.is in
    subst (λ es. TellsKindsOf c.add_body.new.next known es) (sym more)
    (c.in_ok-add_body.ensures known (ds ++ map definition_view (take i xs)) tells (c.loop-definition.invariant known ds tells told))

pub returns : goal.returns
returns c known ds tells told =
    let xs = c.deref-definition-items.result.now in
    subst (λ ys. TellsKindsOf c.loop-definition.next known (ds ++ map definition_view ys)) (take_all c.loop-definition.definition-index xs c.loop-definition-test.false ∙ c.deref-definition-items.ensures.value)
    (c.loop-definition.invariant known ds tells told)

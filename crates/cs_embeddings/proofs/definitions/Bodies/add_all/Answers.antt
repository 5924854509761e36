use Rattle.std.proofs.Common.{◌++◌, map, take, sym, ◌∙◌, subst}
use Rattle.std.proofs.lemmas.List.{take_all}
use Rattle.cs_grammar.specs.View.{definition_view}
use Rattle.cs_embeddings.specs.Checks.{TellsBodies}
use Rattle.cs_embeddings.proofs.Bodies.{definition_more}
use Rattle.cs_embeddings.proofs.definitions.Bodies.add_all.Goals as goal

pub loop-definition-preserved : goal.loop-definition-preserved
loop-definition-preserved c ds told =
    let xs = c.deref-definition-items.result.now in
    let i = c.loop-definition.definition-index in
    let more = definition_more ds xs i c.definition-item.result c.loop-definition-test.true c.definition-item.is in
    subst (λ es. TellsBodies c.add.new.self es) (sym more) (c.in_ok-add.ensures (ds ++ map definition_view (take i xs)) (c.loop-definition.invariant ds told))

pub returns : goal.returns
returns c ds told =
    let xs = c.deref-definition-items.result.now in
    let whole = take_all c.loop-definition.definition-index xs c.loop-definition-test.false ∙ c.deref-definition-items.ensures.value in
    subst (λ ys. TellsBodies c.loop-definition.self (ds ++ map definition_view ys)) whole (c.loop-definition.invariant ds told)

use Rattle.std.proofs.Common.{◌++◌, take, map, sym, subst}
use Rattle.cs_grammar.specs.View.{definition_view}
use Rattle.cs_resolve.specs.Narrowed.{HoldsSole}
use Rattle.cs_resolve.proofs.SoleBodies.{definition_more}
use Rattle.cs_resolve.proofs.refinement.record_all_bodies.Goals as goal

pub loop-definition-preserved : goal.loop-definition-preserved
loop-definition-preserved c ds held =
    let xs = c.deref-definition-items.result.now in
    let i = c.loop-definition.definition-index in
    let more = definition_more ds xs i c.definition-item.result c.loop-definition-test.true c.definition-item.is in
    subst (λ es. HoldsSole c.record_body.new.bodies es) (sym more) (c.in_ok-record_body.ensures (ds ++ map definition_view (take i xs)) (c.loop-definition.invariant ds held))

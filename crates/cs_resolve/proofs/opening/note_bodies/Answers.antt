use Rattle.std.proofs.Common.{◌++◌, take, map, sym, subst}
use Rattle.cs_grammar.specs.View.{definition_view}
use Rattle.cs_resolve.specs.Opening.{named_bodies}
use Rattle.cs_resolve.specs.Checks.{Repeats}
use Rattle.cs_resolve.proofs.Trees.{bodies_more}
use Rattle.cs_resolve.proofs.opening.note_bodies.Goals as goal

pub loop-definition-preserved : goal.loop-definition-preserved
loop-definition-preserved c ns told =
    let ds = c.deref-definition-items.result.now in
    let i = c.loop-definition.definition-index in
    let more = bodies_more ns ds i c.definition-item.result c.loop-definition-test.true c.definition-item.is c.as_str.result.now c.as_str.ensures.value in
    subst (λ ms. Repeats c.note.new.repeats ms) (sym more) (c.in_ok-note.ensures (ns ++ named_bodies (map definition_view (take i ds))) (c.loop-definition.invariant ns told))

use Rattle.std.proofs.Common.{take, sym, subst}
use Rattle.cs_grammar.specs.View.{fields_view}
use Rattle.cs_resolve.specs.Opening.{every_key, named_fields}
use Rattle.cs_resolve.specs.Checks.{CountsAs, unplain}
use Rattle.cs_resolve.proofs.Trees.{named_more}
use Rattle.cs_resolve.proofs.opening.every_repeats.Goals as goal

pub loop-field-preserved : goal.loop-field-preserved
loop-field-preserved c =
    let xs = c.deref-field-items.result.now in
    let i = c.loop-field.field-index in
    let more = named_more xs i c.field-item.result c.loop-field-test.true c.field-item.is in
    subst (λ ns. CountsAs c.count_every-every.result (unplain every_key ns)) (sym more) (c.count_every-every.ensures (named_fields (fields_view (take i xs))) c.loop-field.invariant)

use Rattle.std.proofs.Common.{take, sym, subst}
use Rattle.cs_grammar.specs.View.{fields_view}
use Rattle.cs_resolve.specs.Around.{HoldsLabels}
use Rattle.cs_resolve.specs.Scopes.{labels}
use Rattle.cs_resolve.proofs.LabelSets.{labels_more}
use Rattle.cs_resolve.proofs.shapes.labels_of.Goals as goal

pub loop-field-preserved : goal.loop-field-preserved
loop-field-preserved c =
    let xs = c.deref-field-items.result.now in
    let i = c.loop-field.field-index in
    let more = labels_more xs i c.field-item.result c.loop-field-test.true c.field-item.is in
    subst (λ ls. HoldsLabels c.put_label.new.labels ls) (sym more) (c.in_ok-put_label.ensures (labels (fields_view (take i xs))) c.loop-field.invariant)

use Rattle.std.proofs.Common.{take, sym, subst}
use Rattle.cs_grammar.specs.View.{fields_view}
use Rattle.cs_resolve.specs.Narrowed.{HoldsTexts}
use Rattle.cs_resolve.specs.Refinement.{texts}
use Rattle.cs_resolve.proofs.TextSets.{text_put, texts_more}
use Rattle.cs_resolve.proofs.refinement.field_labels.Goals as goal

pub loop-field-preserved : goal.loop-field-preserved
loop-field-preserved c =
    let xs = c.deref-field-items.result.now in
    let i = c.loop-field.field-index in
    let more = texts_more xs i c.field-item.result c.loop-field-test.true c.field-item.is c.as_str.result.now c.as_str.ensures.value in
    subst (λ ts. HoldsTexts c.insert.new.self ts) (sym more) (text_put c.loop-field.labels c.insert.new.self (texts (fields_view (take i xs))) c.as_str.result c.loop-field.invariant c.in_ok-insert.ensures.updates)

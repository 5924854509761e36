use Rattle.std.proofs.Common.{take, ap, sym, subst}
use Rattle.cs_grammar.specs.View.{fields_view}
use Rattle.cs_resolve.specs.Opening.{named_fields}
use Rattle.cs_resolve.specs.Checks.{Repeats, with_own_name}
use Rattle.cs_resolve.proofs.Trees.{named_more}
use Rattle.cs_resolve.proofs.opening.name_repeats.Goals as goal

pub loop-field-preserved : goal.loop-field-preserved
loop-field-preserved c =
    let xs = c.deref-field-items.result.now in
    let i = c.loop-field.field-index in
    let more = named_more xs i c.field-item.result c.loop-field-test.true c.field-item.is in
    subst (λ ns. Repeats c.note_label.new.repeats ns) (ap with_own_name (sym more)) (c.in_ok-note_label.ensures (named_fields (fields_view (take i xs))) c.loop-field.invariant)

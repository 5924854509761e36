use Rattle.std.proofs.Common.{map, sym, ap, ◌∙◌}
use Rattle.std.proofs.lemmas.List.{take_all}
use Rattle.std.proofs.lemmas.Simd.{map-map}
use Rattle.cs_grammar.proofs.Views.{view-value}
use Rattle.cs_plain.proofs.Walks.{map_pushed}
use Rattle.cs_selectors.specs.Checks.{tree_at, field_at}
use Rattle.cs_selectors.proofs.reached.values_of.Goals as goal

pub loop-field-preserved : goal.loop-field-preserved
loop-field-preserved c =
    map_pushed (λ f. (field_at f).value) tree_at c.args.fields.now c.loop-field.field-index c.field-item.result c.loop-field-test.true c.field-item.is _ _ _ c.in_ok-push.ensures.items c.loop-field.invariant (sym (view-value c.field-item.result.now))

pub returns : goal.returns
returns c =
    let xs = c.args.fields.now in
    c.loop-field.invariant ∙ ap (map (λ f. (field_at f).value)) (take_all c.loop-field.field-index xs c.loop-field-test.false) ∙ sym (map-map (λ f. f.value) field_at xs)

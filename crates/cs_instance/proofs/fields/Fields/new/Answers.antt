use Rattle.std.proofs.Common.{◌≡◌, map, ap, ◌∙◌, subst, arith}
use Rattle.std.specs.List.{list_any}
use Rattle.std.specs.List.Sorted.{IsPermutation}
use Rattle.std.proofs.lemmas.List.{take_all}
use Rattle.std.proofs.lemmas.List.Sorted.{IsPermutation-map}
use Rattle.cs_flat.specs.View.{text_of}
use Rattle.cs_package.specs.Expression.{is_every}
use Rattle.cs_package.specs.View.{mark_of}
use Rattle.cs_instance.specs.Keys.{AreKeysOf}
use Rattle.cs_instance.specs.declared.rules.Field.{Field}
use Rattle.cs_instance.proofs.fields.Fields.new.Goals as goal

pub invariant_of-result : goal.invariant_of-result
invariant_of-result c =
    let fs = c.args.all.items in
    let before = c.loop-field.labels.items in
    let after = c.sort_unstable.new.self.items in
    let label = λ (f : Field). f.label.now in
    let items = c.deref-field-items in
    let whole : map text_of before ≡ map label fs = c.loop-field.invariant ∙ ap (map label) (take_all c.loop-field.field-index items.result.now (omega (arith, c.loop-field-test.false)) ∙ items.ensures.value) in
    let are : AreKeysOf fs after c.has_every-every.result = record {
      same = subst (λ ts. IsPermutation ts (map text_of after)) whole (IsPermutation-map text_of before after c.sort_unstable.ensures.permutation);
      order = c.sort_unstable.ensures.sorted;
      all = c.has_every-every.ensures ∙ ap (list_any (λ f. is_every (mark_of f.mark))) c.deref.ensures.value;
    } in
    record { keys = ∣ are ∣₁ }

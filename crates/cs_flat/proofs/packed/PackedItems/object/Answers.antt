use Rattle.std.proofs.Common.{◌≡◌, ◌∷◌, [], ◌++◌, length, map, length-append, ◌+◌, refl, ap, ap₂, ◌∙◌, arith}
use Rattle.std.proofs.lemmas.Result.{err_from_is_err_and}
use Rattle.std.proofs.lemmas.List.{length-map}
use Rattle.cs_document.specs.Opened.{an_object}
use Rattle.cs_flat.specs.Packed.{unpacked}
use Rattle.cs_flat.specs.View.{entry_of}
use Rattle.cs_flat.specs.declared.packed.PackedItem.TheVariants.{Object}
use Rattle.cs_flat.proofs.Ranges.{all_within-push, all_with_entries, object-pushed}
use Rattle.cs_flat.proofs.packed.PackedItems.object.Goals as goal

pub returns-clause-pushed : goal.returns-clause-pushed
returns-clause-pushed c =
    let p = c.self.inside in
    let es = p.elements.items in
    let ms = p.entries.items in
    let more = c.args.entries.now in
    let first : c.len-first.result ≡ length ms = omega arith in (
      omega (arith, length-map p.items.items (unpacked es ms), ap length c.self.view_is),
      object-pushed es ms more c.extend_from_slice.new.self.items p.items.items c.push.new.self.items c.len-first.result (length more) c.self.invariant c.in_ok-extend_from_slice.ensures.items first refl c.in_ok-push.ensures.items
          ∙ ap (λ xs. xs ++ an_object (map entry_of more) ∷ []) c.self.view_is,
    )

pub invariant_of-self-2 : goal.invariant_of-self-2
invariant_of-self-2 c =
    let p = c.self.inside in
    let es = p.elements.items in
    let ms = p.entries.items in
    let all = c.extend_from_slice.new.self.items in
    let more = c.args.entries.now in
    let grown : length all ≡ length ms + length more = omega (arith, ap length c.in_ok-extend_from_slice.ensures.items, length-append ms more) in
    all_within-push (length es) (length es) (length ms) (length all) p.items.items c.push.new.self.items (Object c.len-first.result (length more)) (omega arith) (omega (arith, grown)) c.self.invariant (omega (arith, grown)) c.in_ok-push.ensures.items

pub returns-in_err-push-clause-kept : goal.returns-in_err-push-clause-kept
returns-in_err-push-clause-kept c =
    let p = c.self.inside in
    let es = p.elements.items in
    let ms = p.entries.items in
    let failed = err_from_is_err_and c.from_residual-in_err-push.result c.from_residual-in_err-push.ensures.1 in
    rw failed.1 (ap₂ (λ ys xs. map (unpacked es ys) xs) c.in_ok-extend_from_slice.ensures.items c.in_err-push.ensures.items ∙ all_with_entries es ms c.args.entries.now p.items.items c.self.invariant ∙ c.self.view_is)

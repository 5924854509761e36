use Rattle.std.proofs.Common.{◌∙◌, ◌∷◌, ◌++◌, [], sym, ap, ap₂, map, string_bytes}
use Rattle.std.proofs.lemmas.List.{map-append, take_more}
use Rattle.cs_profile.specs.Numbered.{name_of_number}
use Rattle.cs_profile.proofs.Numbers.{named_at}
use Rattle.cs_profile.proofs.references.names_of_numbers.Goals as goal

pub loop-number-preserved : goal.loop-number-preserved
loop-number-preserved c =
    let ds = c.args.definitions.now.entries in
    let l = c.loop-number in
    let inside = c.requires l.number-index 0 c.loop-number-test.true in
    let name = named_at ds c.in_ok-all.all.items _ c.index.result.now c.in_ok-all.ensures inside c.index.ensures in
    ap (map string_bytes) c.in_ok-push.ensures.items ∙ map-append string_bytes l.names.items (c.in_ok-clone.field-0 ∷ [])
    ∙ ap₂ (λ xs ys. xs ++ ys) l.invariant (ap (λ n. n ∷ []) (c.in_ok-clone.ensures.cases ∙ name))
    ∙ sym (ap (map (name_of_number ds)) (take_more c.args.numbers.now l.number-index 0 c.loop-number-test.true) ∙ map-append (name_of_number ds) _ _)

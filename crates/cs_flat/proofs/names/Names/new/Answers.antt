use Rattle.std.proofs.Common.{◌≡◌, map, string_bytes, ap, ◌∙◌, subst, arith}
use Rattle.std.specs.List.Sorted.{IsPermutation}
use Rattle.std.proofs.lemmas.List.{take_all}
use Rattle.std.proofs.lemmas.List.Sorted.{IsPermutation-map}
use Rattle.cs_flat.specs.View.{text_of}
use Rattle.cs_flat.proofs.names.Names.new.Goals as goal

pub invariant_of-result : goal.invariant_of-result
invariant_of-result c =
    let texts = c.args.texts.now in
    let before = c.loop-text.sorted.items in
    let after = c.sort_unstable.new.self.items in
    let all : map text_of before ≡ map string_bytes texts = c.loop-text.invariant ∙ ap (map string_bytes) (take_all c.loop-text.text-index texts (omega (arith, c.loop-text-test.false))) in
    subst (λ ts. IsPermutation ts (map text_of after)) all (IsPermutation-map text_of before after c.sort_unstable.ensures.permutation)

use Rattle.std.proofs.Common.{◌≡◌, ℕ, ◌+◌, ◌<◌, List, ◌++◌, [], ◌∷◌, map, length, take, get_or, string_bytes, String, Global, Option, IfSome, sym, ap, ap₂, ◌∙◌, subst}
use Rattle.std.proofs.lemmas.List.{map-append, take_more}
use Rattle.cs_package.specs.Environment.{Environment, written}
use Rattle.cs_guard.specs.Numbered.{name_of}
use Rattle.cs_guard.proofs.Numbers.{name_within}
use Rattle.cs_guard.proofs.guarded.names_of.Goals as goal

-- one more name
told_more : (E : Environment) (names new : List (String Global)) (s : String Global) (xs : List ℕ) (k : ℕ) → k < length xs → map string_bytes names ≡ map (λ i. written (name_of E i)) (take k xs) → new ≡ names ++ s ∷ [] → string_bytes s ≡ written (name_of E (get_or xs k 0))
    → map string_bytes new ≡ map (λ i. written (name_of E i)) (take (k + 1) xs)
told_more E names new s xs k l before grown is =
    ap (map string_bytes) grown ∙ map-append string_bytes names (s ∷ [])
    ∙ ap₂ (λ ts t. ts ++ t ∷ []) before is
    ∙ sym (ap (map (λ i. written (name_of E i))) (take_more xs k 0 l) ∙ map-append (λ (i : ℕ). written (name_of E i)) (take k xs) (get_or xs k 0 ∷ []))

pub loop-number-preserved : goal.loop-number-preserved
loop-number-preserved c =
    let E = c.args.package.now in
    let xs = c.args.numbers.now in
    let k = c.loop-number.number-index in
    let l : k < length xs = c.loop-number-test.true in
    let inside : get_or xs k 0 < length E = c.requires k 0 l in
    let P = λ (o : Option (List ℕ)). IfSome o (λ n. c.name.result.now ≡ written n) in
    let text : c.name.result.now ≡ written (name_of E (get_or xs k 0)) = subst P (name_within E (get_or xs k 0) inside) c.name.ensures.text in
    told_more E c.loop-number.names.items c.push.new.self.items c.in_ok-from_str.field-0 xs k l c.loop-number.invariant c.in_ok-push.ensures.items (c.in_ok-from_str.ensures.ok ∙ text)

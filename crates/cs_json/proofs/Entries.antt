-- The entries of a map: each key above the one before it.
use Rattle.std.proofs.Common.{◌≡◌, ℕ, suc, ◌+◌, Bool, true, false, IsTrue, List, [], ◌∷◌, length, get_or, map, Bor, Ordering, Less, Equal, Greater, nat_cmp, refl, sym, subst, arith}
use Rattle.std.specs.Cmp.Lexicographic.{slice_cmp}
use Rattle.std.specs.List.{AllAdjacentBelow, IsAllAdjacentAnswer}
use Rattle.std.specs.Ordering.{is_lt}
use Rattle.std.proofs.lemmas.Cmp.{nat_list_cmp_total}
use Rattle.cs_document.specs.Document.{Entry}
use Rattle.cs_document.specs.Inside.{KeysAscend}
use Rattle.cs_document.proofs.Each.{each_map}
use Rattle.cs_flat.specs.View.{entry_of}

-- an entry of the code
abbrev pub Pair : Type 0
Pair = Bor (List ℕ) × ℕ

-- whether its key is below that of another one
abbrev pub is_below : Pair → Pair → Bool
is_below a b = is_lt (slice_cmp nat_cmp a.0.now b.0.now)

below : (o : Ordering) → is_lt o ≡ true → o ≡ Less
below Less e = refl
below Equal e = cc
below Greater e = cc

ascends : (es : List Pair) → AllAdjacentBelow (λ a b. true ≡ is_below a b) es (length es) → KeysAscend (map entry_of es)
ascends [] h = tt
ascends (a ∷ []) h = (tt, tt)
ascends (a ∷ b ∷ es) h =
    let first : slice_cmp nat_cmp a.0.now b.0.now ≡ Less = below (slice_cmp nat_cmp a.0.now b.0.now) (sym (h 0 a (omega arith))) in
    let rest = ascends (b ∷ es) (λ k d l. subst (λ n. true ≡ is_below (get_or (b ∷ es) k d) (get_or (a ∷ b ∷ es) n d)) {x = suc k + 1} {y = suc (k + 1)} (omega arith) (h (suc k) d (omega arith))) in
    ((first, each_map (λ (m : Entry ℕ). slice_cmp nat_cmp b.0.now m.0 ≡ Less) (λ m. slice_cmp nat_cmp a.0.now m.0 ≡ Less) (λ m l. nat_list_cmp_total.trans a.0.now b.0.now m.0 first l) (map entry_of es) rest.0), rest)

pub ascends_if : (es : List Pair) (r : Bool) → IsAllAdjacentAnswer (λ a b t. t ≡ is_below a b) es r → IsTrue r → KeysAscend (map entry_of es)
ascends_if es true h up = ascends es h
ascends_if es false h up = absurd (cc)

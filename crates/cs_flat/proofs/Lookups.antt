-- Look-up by halving among entries whose keys ascend.
use Rattle.std.proofs.Common.{◌≡◌, ℕ, zero, suc, ◌+◌, ◌<◌, true, false, if◌then◌else◌, List, [], ◌∷◌, length, get_or, map, Some, None, Bor, Ordering, Less, Equal, Greater, nat_cmp, bytes_eq, refl, sym, ap, ◌∙◌, subst, arith}
use Rattle.std.specs.Cmp.Lexicographic.{slice_cmp, texts_ties, nat_list_eq_equiv}
use Rattle.std.specs.List.{AllWithin, AllByRecursion as Each}
use Rattle.std.specs.List.Sorted.{IsSortedBy, IsNonDecreasingBy}
use Rattle.std.specs.Ordering.{is_lt, is_eq, ordering_index, ordering_reverse}
use Rattle.std.proofs.lemmas.Bool.{false≢true}
use Rattle.std.proofs.lemmas.Cmp.{nat_list_cmp_total, alike_right}
use Rattle.std.proofs.lemmas.Map.Text.{is_eq-slice_cmp}
use Rattle.std.proofs.lemmas.List.Sorted.{searchable_from_sorted}
use Rattle.cs_document.specs.Document.{Entry, under}
use Rattle.cs_document.specs.Inside.{KeysAscend}
use Rattle.cs_flat.specs.View.{entry_of}

-- an entry of the code
abbrev Pair : Type 0
Pair = Bor (List ℕ) × ℕ

-- how its key stands to k
abbrev pub beside : List ℕ → Pair → Ordering
beside k e = slice_cmp nat_cmp e.0.now k

told : (k : List ℕ) (e : Pair) → bytes_eq k e.0.now ≡ is_eq (beside k e)
told k e = nat_list_eq_equiv.symm k e.0.now ∙ texts_ties e.0.now k

above : (a : List ℕ) (es : List Pair) (i : ℕ) (d : Pair) → Each (λ (m : Entry ℕ). slice_cmp nat_cmp a m.0 ≡ Less) (map entry_of es) → i < length es → slice_cmp nat_cmp a (get_or es i d).0.now ≡ Less
above a [] i d h l = absurd (omega arith)
above a (e ∷ es) zero d h l = h.0
above a (e ∷ es) (suc i) d h l = above a es i d h.1 (omega arith)

-- an entry whose key isn't k is passed over
passed : (k : List ℕ) (e : Pair) (es : List Pair) → is_eq (beside k e) ≡ false → under k (map entry_of (e ∷ es)) ≡ under k (map entry_of es)
passed k e es other = ap (λ b. if b then Some e.1 else under k (map entry_of es)) (told k e ∙ other)

-- ---- what halving asks

sorted : (es : List Pair) → KeysAscend (map entry_of es) → IsSortedBy (λ a b. is_lt (slice_cmp nat_cmp a.0.now b.0.now)) es
sorted [] up i d a l = absurd (omega arith)
sorted (e ∷ []) up i d a l = absurd (omega arith)
sorted (e ∷ f ∷ es) up zero d a l = ap is_lt (nat_list_cmp_total.antisymm f.0.now e.0.now ∙ ap ordering_reverse up.0.0)
sorted (e ∷ f ∷ es) up (suc i) d a l =
    let next : suc (i + 1) ≡ suc i + 1 = omega arith in subst (λ j. is_lt (slice_cmp nat_cmp (get_or (e ∷ f ∷ es) j d).0.now (get_or (f ∷ es) i d).0.now) ≡ false) next (sorted (f ∷ es) up.1 i d (omega arith) (omega arith))

pub searchable : (k : List ℕ) (es : List Pair) → KeysAscend (map entry_of es) → IsNonDecreasingBy (λ e. ordering_index (beside k e)) es
searchable k es up = searchable_from_sorted nat_list_cmp_total (λ e. e.0.now) es k (sorted es up)

-- ---- what it finds

pub found : (k : List ℕ) (es : List Pair) (i : ℕ) (d : Pair) → KeysAscend (map entry_of es) → i < length es → beside k (get_or es i d) ≡ Equal → Some (get_or es i d).1 ≡ under k (map entry_of es)
found k [] i d up l e = absurd (omega arith)
found k (x ∷ es) zero d up l e = sym (ap (λ b. if b then Some x.1 else under k (map entry_of es)) (told k x ∙ ap is_eq e))
found k (x ∷ es) (suc i) d up l e =
    let y = get_or es i d in
    let less : beside k x ≡ Less = sym (alike_right nat_list_cmp_total y.0.now k x.0.now e) ∙ above x.0.now es i d up.0 (omega arith) in
    found k es i d up.1 (omega arith) e ∙ sym (passed k x es (ap is_eq less))

pub missed : (k : List ℕ) (es : List Pair) (i : ℕ) → AllWithin (λ e. beside k e ≡ Less) es 0 i → AllWithin (λ e. beside k e ≡ Greater) es i (length es) → None ≡ under k (map entry_of es)
missed k [] i less more = refl
missed k (x ∷ es) zero less more =
    missed k es zero (λ j d a b. absurd (omega arith)) (λ j d a b. more (suc j) d (omega arith) (omega arith)) ∙ sym (passed k x es (ap is_eq (more 0 x (omega arith) (omega arith))))
missed k (x ∷ es) (suc i) less more =
    missed k es i (λ j d a b. less (suc j) d (omega arith) (omega arith)) (λ j d a b. more (suc j) d (omega arith) (omega arith))
    ∙ sym (passed k x es (ap is_eq (less 0 x (omega arith) (omega arith))))

-- ---- what is found without it

equal_from : (o : Ordering) → is_eq o ≡ true → o ≡ Equal
equal_from Equal e = refl
equal_from Less e = absurd (false≢true e)
equal_from Greater e = absurd (false≢true e)

pub hit : (k : List ℕ) (es : List Pair) (i : ℕ) (d : Pair) → KeysAscend (map entry_of es) → i < length es → bytes_eq (get_or es i d).0.now k ≡ true → Some (get_or es i d).1 ≡ under k (map entry_of es)
hit k es i d up l e = found k es i d up l (equal_from _ (is_eq-slice_cmp (get_or es i d).0.now k ∙ e))

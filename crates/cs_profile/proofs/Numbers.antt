-- Definitions and their numbers, which are their places in byte order.
use Rattle.std.proofs.Common.{◌≡◌, ℕ, zero, suc, ◌+◌, ◌<◌, List, [], ◌∷◌, ◌++◌, map, length, get_or, String, Global, string_bytes, string_cmp, nat_cmp, Less, Greater, refl, sym, ap, ap₂, ◌∙◌, subst, Bor, arith}
use Rattle.std.specs.Ordering.{ordering_reverse}
use Rattle.std.specs.String.{string_cmp_total}
use Rattle.std.specs.BTreeMap.{insert_entry}
use Rattle.std.specs.Cmp.Lexicographic.{slice_cmp}
use Rattle.std.specs.List.{AllByRecursion as Each}
use Rattle.std.specs.List.Sorted.{IsStrictlySortedBy}
use Rattle.std.specs.Map.{keys_of}
use Rattle.std.proofs.lemmas.List.{map-append}
use Rattle.std.proofs.Math.ListN.{length-map}
use Rattle.std.proofs.lemmas.Simd.{map-map}
use Rattle.cs_document.specs.Document.{Entry}
use Rattle.cs_profile.specs.Numbered.{by_text, names_in, numbered, name_of_number}
use Rattle.cs_profile.specs.declared.schema.Schema.{Schema}

-- ---- a name that is inserted behind all others

insert_last : (es : List (String Global × ℕ)) (k : String Global) (v : ℕ) → Each (λ n. slice_cmp nat_cmp (string_bytes k) n ≡ Greater) (names_in es)
    → by_text (insert_entry string_cmp es k v) ≡ by_text es ++ (string_bytes k, v) ∷ []
insert_last [] k v h = refl
insert_last (e ∷ es) k v h = rw h.0 (ap (λ (r : List (Entry ℕ)). (string_bytes e.0, e.1) ∷ r) (insert_last es k v h.1))

names_of-by_text : {X : Type 0} (es : List (String Global × X)) → map (λ e. e.0) (by_text es) ≡ names_in es
names_of-by_text [] = refl
names_of-by_text (e ∷ es) = ap (λ ns. string_bytes e.0 ∷ ns) (names_of-by_text es)

names_of-numbered : (i : ℕ) (ns : List (List ℕ)) → map (λ e. e.0) (numbered i ns) ≡ ns
names_of-numbered i [] = refl
names_of-numbered i (n ∷ ns) = ap (λ ms. n ∷ ms) (names_of-numbered (suc i) ns)

pub length-by_text : {X : Type 0} (es : List (String Global × X)) → length (by_text es) ≡ length es
length-by_text [] = refl
length-by_text (e ∷ es) = ap suc (length-by_text es)

length-numbered : (i : ℕ) (ns : List (List ℕ)) → length (numbered i ns) ≡ length ns
length-numbered i [] = refl
length-numbered i (n ∷ ns) = ap suc (length-numbered (suc i) ns)

numbered_more : (i j : ℕ) (ns : List (List ℕ)) (m : List ℕ) → j ≡ i + length ns → numbered i ns ++ (m, j) ∷ [] ≡ numbered i (ns ++ m ∷ [])
numbered_more i j [] m e = let same : j ≡ i = omega (arith, e) in ap (λ k. (m, k) ∷ []) same
numbered_more i j (n ∷ ns) m e = ap (λ r. (n, i) ∷ r) (numbered_more (suc i) j ns m (omega (arith, e)))

last_greater : (ks : List (String Global)) (k : String Global) (rest : List (String Global)) → IsStrictlySortedBy string_cmp (ks ++ k ∷ rest)
    → Each (λ n. slice_cmp nat_cmp (string_bytes k) n ≡ Greater) (map string_bytes ks)
unfolding IsStrictlySortedBy
last_greater [] k rest h = tt
last_greater (j ∷ ks) k rest h = (string_cmp_total.antisymm k j ∙ ap ordering_reverse (at_last ks h.0), last_greater ks k rest h.1)
  where
    at_last : (ks : List (String Global)) → Each (λ y. string_cmp j y ≡ Less) (ks ++ k ∷ rest) → string_cmp j k ≡ Less
    at_last [] a = a.0
    at_last (l ∷ ks) a = at_last ks a.1

-- a definition's number is inserted
pub numbered_next : (all done left : List (String Global)) (es new : List (String Global × ℕ)) (k copy : String Global) (v : ℕ)
    → IsStrictlySortedBy string_cmp all → all ≡ done ++ k ∷ left → by_text es ≡ numbered 0 (map string_bytes done) → string_bytes copy ≡ string_bytes k → v ≡ length es
    → new ≡ insert_entry string_cmp es copy v → by_text new ≡ numbered 0 (map string_bytes (done ++ k ∷ []))
numbered_next all done left es new k copy v sorted is made same at grown =
    let names : names_in es ≡ map string_bytes done = sym (names_of-by_text es) ∙ ap (map (λ e. e.0)) made ∙ names_of-numbered 0 (map string_bytes done) in
    let greater = last_greater done k left (subst (IsStrictlySortedBy string_cmp) is sorted) in
    let above : Each (λ n. slice_cmp nat_cmp (string_bytes copy) n ≡ Greater) (names_in es) =
    subst (λ ns. Each (λ n. slice_cmp nat_cmp (string_bytes copy) n ≡ Greater) ns) (sym names) (subst (λ b. Each (λ n. slice_cmp nat_cmp b n ≡ Greater) (map string_bytes done)) (sym same) greater) in
    let long : v ≡ length (map string_bytes done) = at ∙ sym (length-by_text es) ∙ ap length made ∙ length-numbered 0 (map string_bytes done) in
    ap by_text grown ∙ insert_last es copy v above ∙ ap₂ (λ xs ys. xs ++ ys) made (ap (λ b. (b, v) ∷ []) same)
    ∙ numbered_more 0 v (map string_bytes done) (string_bytes k) (omega (arith, long)) ∙ ap (numbered 0) (sym (map-append string_bytes done (k ∷ [])))

-- ---- the name of a number

at_place : {X Y : Type 0} (f : X → Y) (xs : List X) (i : ℕ) (x : X) (d : Y) → i < length xs → x ≡ get_or xs i x → get_or (map f xs) i d ≡ f x
at_place f [] i x d l e = absurd (omega (arith, l))
at_place f (y ∷ xs) zero x d l e = ap f (sym e)
at_place f (y ∷ xs) (suc i) x d l e = at_place f xs i x d (omega (arith, l)) e

pub named_at : (ds : List (String Global × Schema)) (all : List (Bor (String Global))) (i : ℕ) (x : Bor (String Global)) → map (λ n. n.now) all ≡ keys_of ds → i < length ds → x ≡ get_or all i x
    → string_bytes x.now ≡ name_of_number ds i
named_at ds all i x e l at =
    let long : length all ≡ length ds = sym (length-map all (λ (n : Bor (String Global)). n.now)) ∙ ap length e ∙ length-map ds (λ (d : String Global × Schema). d.0) in
    sym (at_place (λ (n : Bor (String Global)). string_bytes n.now) all i x [] (omega (arith, long, l)) at)
    ∙ ap (λ ns. get_or ns i []) (sym (map-map string_bytes (λ (n : Bor (String Global)). n.now) all) ∙ ap (map string_bytes) e ∙ map-map string_bytes (λ (d : String Global × Schema). d.0) ds)

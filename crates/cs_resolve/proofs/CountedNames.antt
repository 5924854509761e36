-- Names that a set counts.
use Rattle.std.proofs.Common.{◌≡◌, ℕ, suc, ◌+◌, Bool, true, false, ◌||◌, cond, not, List, [], ◌∷◌, ◌++◌, length, refl, sym, ap, ◌∙◌, add-zero, arith}
use Rattle.std.specs.Prelude.{if◌then◌else◌}
use Rattle.std.specs.Borrow.{Bor}
use Rattle.std.specs.BTreeSet.{BTreeSet}
use Rattle.std.specs.List.{list_any}
use Rattle.std.specs.Str.{bytes_eq}
use Rattle.std.proofs.lemmas.Slice.Eq.{bytes_eq-Decides}
use Rattle.cs_resolve.specs.Around.{has_text}
use Rattle.cs_resolve.specs.Declarations.{distinct}
use Rattle.cs_resolve.specs.Steps.{HoldsNames}
use Rattle.cs_resolve.proofs.LabelSets.{Puts, has_text_put}
use Rattle.cs_resolve.proofs.Order.{put, distinct_push}

or_again : (a b : Bool) → (a || b) ≡ ((a || b) || a)
or_again true b = refl
or_again false true = refl
or_again false false = refl

or_apart : (a b c : Bool) → (a || (b || c)) ≡ ((a || b) || c)
or_apart true b c = refl
or_apart false b c = refl

or_nothing : (a : Bool) → (a || false) ≡ a
or_nothing true = refl
or_nothing false = refl

-- a name is among those with one more
put_any : (t n : List ℕ) (ms : List (List ℕ)) → list_any (bytes_eq t) (put n ms) ≡ (list_any (bytes_eq t) ms || bytes_eq t n)
put_any t n [] = or_nothing (bytes_eq t n)
put_any t n (m ∷ ms) = by (bytes_eq n m) refl (put_any t n ms)
  where
    by : (b : Bool) → bytes_eq n m ≡ b → list_any (bytes_eq t) (put n ms) ≡ (list_any (bytes_eq t) ms || bytes_eq t n) → list_any (bytes_eq t) (cond b (m ∷ ms) (m ∷ put n ms)) ≡ (list_any (bytes_eq t) (m ∷ ms) || bytes_eq t n)
    by true same later = or_again (bytes_eq t m) (list_any (bytes_eq t) ms) ∙ ap (λ u. list_any (bytes_eq t) (m ∷ ms) || bytes_eq t u) (sym ((bytes_eq-Decides n m).0 same))
    by false other later = ap (λ b. bytes_eq t m || b) later ∙ or_apart (bytes_eq t m) (list_any (bytes_eq t) ms) (bytes_eq t n)

suc_plus : (a b c : ℕ) → a ≡ b + c → suc a ≡ suc b + c
suc_plus a b c h = omega (arith, h)

-- there is one more, unless it is there already
put_count : (n : List ℕ) (ms : List (List ℕ)) (there : Bool) → list_any (bytes_eq n) ms ≡ there → length (put n ms) ≡ length ms + cond there 0 1
put_count n [] true h = cc
put_count n [] false h = refl
put_count n (m ∷ ms) there h = by (bytes_eq n m) there h (put_count n ms)
  where
    by : (a b : Bool) → (a || list_any (bytes_eq n) ms) ≡ b → ((c : Bool) → list_any (bytes_eq n) ms ≡ c → length (put n ms) ≡ length ms + cond c 0 1) → length (cond a (m ∷ ms) (m ∷ put n ms)) ≡ suc (length ms) + cond b 0 1
    by true true e later = sym (add-zero (suc (length ms)))
    by true false e later = cc
    by false b e later = suc_plus (length (put n ms)) (length ms) (cond b 0 1) (later b e)

abbrev more : Bool → ℕ
more added = if added then 1 else 0

one_more : (added there : Bool) → added ≡ not there → more added ≡ cond there 0 1
one_more true true h = cc
one_more true false h = refl
one_more false true h = refl
one_more false false h = cc

-- a name is put into the set
pub counted : (s n : BTreeSet (Bor (List ℕ))) (ns : List (List ℕ)) (k : Bor (List ℕ)) (added : Bool) → HoldsNames s ns → Puts s n k → added ≡ not (has_text k.now s) → length n.keys ≡ length s.keys + more added → HoldsNames n (ns ++ k.now ∷ [])
counted s n ns k added held puts is long =
    let there = list_any (bytes_eq k.now) (distinct ns) in
    let one = one_more added there (is ∙ ap not (held.texts k.now)) in
    let grown = ap length (distinct_push ns k.now) ∙ put_count k.now (distinct ns) there refl in
    record {
      texts = λ t. has_text_put t s n k puts ∙ ap (λ b. b || bytes_eq t k.now) (held.texts t) ∙ sym (ap (list_any (bytes_eq t)) (distinct_push ns k.now) ∙ put_any t k.now (distinct ns));
      count = long ∙ ap (λ a. length s.keys + a) one ∙ ap (λ a. a + cond there 0 1) held.count ∙ sym grown;
    }

-- Texts that are kept, each once.
use Rattle.std.proofs.Common.{◌≡◌, ℕ, List, [], ◌∷◌, ◌++◌, Bool, true, false, ◌||◌, cond, refl, sym, ap, ◌∙◌, subst}
use Rattle.std.specs.Prelude.{Vec}
use Rattle.std.specs.BTreeSet.{BTreeSet, contains, Updates}
use Rattle.std.specs.List.{IsDistinct, list_any}
use Rattle.std.specs.Ordering.{is_eq}
use Rattle.std.specs.Str.{bytes_eq}
use Rattle.std.specs.Cmp.{IsEquivalence}
use Rattle.std.specs.declared.alloc.Global.{Global}
use Rattle.std.proofs.lemmas.Cmp.{on_equiv, nat_list_eq_equiv}
use Rattle.std.proofs.lemmas.List.{append-nil}
use Rattle.std.proofs.lemmas.List.Folds.{list_any-append}
use Rattle.std.proofs.lemmas.Map.Keys.{IsDistinct-push}
use Rattle.std.proofs.lemmas.Map.Text.{is_eq-slice_cmp}
use Rattle.cs_document.proofs.Each.{each_append, each_front, each_back}
use Rattle.cs_package.specs.Environment.{Environment}
use Rattle.cs_variants.specs.declared.places.Sampled.{Sampled}
use Rattle.cs_samples.specs.declared.asking.Asking.{Asking}
use Rattle.cs_samples.specs.declared.asking.Found.{Found}
use Rattle.cs_samples.specs.Kept.{text_cmp, AreFound, IsSplit}
use Rattle.cs_samples.specs.Sample.{IsSampleText, AreSamples, HasMore, same_text}

pub texts_equal : IsEquivalence same_text
texts_equal = on_equiv (λ t. t.items) nat_list_eq_equiv

pub not_true : (b : Bool) → (b ≡ true → ⊥) → b ≡ false
not_true true h = absurd (h refl)
not_true false h = refl

true-false : true ≡ false → ⊥
true-false e = cc

still : (b o s : Bool) → (o ≡ true → s ≡ true) → (o || (b || false)) ≡ true → cond b true s ≡ true
still true o s h e = refl
still false true s h e = h refl
still false false s h e = cc

-- a copy of a text that is in the set, and so are those that were in it
put_in : (s n : BTreeSet (Vec ℕ Global)) (k t q : Vec ℕ Global) → k.items ≡ t.items → Updates text_cmp s n k true → contains text_cmp n q ≡ cond (same_text q t) true (contains text_cmp s q)
put_in s n k t q is puts = puts.0 q ∙ ap (λ b. cond b true (contains text_cmp s q)) (is_eq-slice_cmp k.items q.items ∙ texts_equal.symm k q ∙ ap (λ bs. bytes_eq q.items bs) is)

-- nothing more is found, and what was seen still is
pub found-still : (a : Asking) (f g : Found) → g.texts.items ≡ f.texts.items → ((q : Vec ℕ Global) → contains text_cmp f.seen q ≡ true → contains text_cmp g.seen q ≡ true) → AreFound a f → AreFound a g
found-still a f g same wider h =
    record {
      samples = subst (AreSamples a.package.now a.root.now a.which) (sym same) h.samples;
      distinct = subst (λ ts. IsDistinct same_text ts) (sym same) h.distinct;
      seen = λ q e. wider q (h.seen q (ap (list_any (same_text q)) (sym same) ∙ e));
    }

-- what was in the set is in it with one more
pub still-in : (s n : BTreeSet (Vec ℕ Global)) (k q : Vec ℕ Global) → Updates text_cmp s n k true → contains text_cmp s q ≡ true → contains text_cmp n q ≡ true
still-in s n k q puts e = put_in s n k k q refl puts ∙ still (same_text q k) true (contains text_cmp s q) (λ _. e) refl

-- what was in the set is in it as long as it stays
pub stays-in : (s n : BTreeSet (Vec ℕ Global)) (q : Vec ℕ Global) → n.keys ≡ s.keys → contains text_cmp s q ≡ true → contains text_cmp n q ≡ true
stays-in s n q same e = ap (list_any (λ k. is_eq (text_cmp q k))) same ∙ e

-- a sample whose text wasn't seen
pub found-more : (a : Asking) (f g : Found) (k t : Vec ℕ Global) → g.texts.items ≡ f.texts.items ++ t ∷ [] → k.items ≡ t.items → contains text_cmp f.seen k ≡ false → Updates text_cmp f.seen g.seen k true → IsSampleText a.package.now a.root.now a.which t.items → AreFound a f → AreFound a g
found-more a f g k t more is new puts one h =
    let ts = f.texts.items in
    let apart : list_any (same_text t) ts ≡ false = ap (λ bs. list_any (λ u. bytes_eq bs u.items) ts) (sym is) ∙ not_true (list_any (same_text k) ts) (λ e. true-false (sym (h.seen k e) ∙ new)) in
    record {
      samples = subst (AreSamples a.package.now a.root.now a.which) (sym more) (each_append _ ts (t ∷ []) h.samples (one, tt));
      distinct = subst (λ us. IsDistinct same_text us) (sym more) (IsDistinct-push texts_equal ts t h.distinct apart);
      seen = λ q e. put_in f.seen g.seen k t q is puts ∙ still (same_text q t) (list_any (same_text q) ts) (contains text_cmp f.seen q) (h.seen q) (sym (ap (list_any (same_text q)) more ∙ list_any-append (same_text q) ts (t ∷ [])) ∙ e);
    }

distinct-none : IsDistinct same_text []
unfolding IsDistinct
distinct-none = tt

-- nothing is found yet
pub found-none : (a : Asking) (f : Found) → f.texts.items ≡ [] → AreFound a f
found-none a f none = record {
  samples = subst (AreSamples a.package.now a.root.now a.which) (sym none) tt;
  distinct = subst (λ ts. IsDistinct same_text ts) (sym none) distinct-none;
  seen = λ q e. absurd (true-false (sym e ∙ ap (list_any (same_text q)) none));
}

-- the first ones of samples, and the others
pub samples-first : (E : Environment) (root : List ℕ) (which : Sampled) (all first : List (Vec ℕ Global)) (count : ℕ) → IsSplit all first count → AreSamples E root which all → AreSamples E root which first
samples-first E root which all first count (rest, many, is) h = each_front _ first rest (subst (AreSamples E root which) (sym is) h)

distinct-front : (ts us : List (Vec ℕ Global)) → IsDistinct same_text (ts ++ us) → IsDistinct same_text ts
unfolding IsDistinct
distinct-front [] us h = tt
distinct-front (t ∷ ts) us h = (each_front _ ts us h.0, distinct-front ts us h.1)

pub distinct-first : (all first : List (Vec ℕ Global)) (count : ℕ) → IsSplit all first count → IsDistinct same_text all → IsDistinct same_text first
distinct-first all first count (rest, many, is) h = distinct-front first rest (subst (IsDistinct same_text) (sym is) h)

pub more-first : (E : Environment) (root : List ℕ) (which : Sampled) (all first : List (Vec ℕ Global)) (count : ℕ) → IsSplit all first count → AreSamples E root which all → IsDistinct same_text all → HasMore E root which first count
more-first E root which all first count (rest, many, is) h apart =
    (rest, many, each_back _ first rest (subst (AreSamples E root which) (sym is) h), subst (IsDistinct same_text) (sym is) apart)

-- there are none beside these
pub no-more : (E : Environment) (root : List ℕ) (which : Sampled) (ts : List (Vec ℕ Global)) (count : ℕ) → count ≡ 0 → IsDistinct same_text ts → HasMore E root which ts count
no-more E root which ts count none h = ([], sym none, tt, subst (IsDistinct same_text) (sym (append-nil ts)) h)

-- The search for closed bases, step by step.
use Rattle.std.proofs.Common.{◌≡◌, ℕ, zero, suc, ◌+◌, ◌<◌, Bool, true, false, ◌||◌, List, [], ◌∷◌, ◌++◌, ◌⊎◌, inl, inr, Option, Some, None, length, slice_get, get_or, take, Result, Ok, Err, OnOk, refl, sym, ap, ◌∙◌, subst, arith}
use Rattle.std.specs.Borrow.{Bor}
use Rattle.std.specs.BTreeSet.{BTreeSet}
use Rattle.std.specs.HashMap.{HashMap, get_by, keys}
use Rattle.std.specs.List.{list_any}
use Rattle.std.specs.Option.{option_map, MatchOption}
use Rattle.std.specs.Str.{bytes_eq}
use Rattle.std.proofs.lemmas.List.{append-nil, append_assoc, take_more}
use Rattle.std.proofs.lemmas.List.Folds.{list_any-append}
use Rattle.std.proofs.lemmas.Slice.Eq.{bytes_eq-Decides}
use Rattle.cs_grammar.specs.Tree.{Tree, Fields, DefinitionTree}
use Rattle.cs_grammar.specs.View.{expr_view}
use Rattle.cs_grammar.specs.declared.ast.Expr.{Expr}
use Rattle.cs_resolve.specs.Declarations.{bodies_of}
use Rattle.cs_resolve.specs.Refinement.{IsBase, by_refinement, Narrowing, narrowing_in, narrows}
use Rattle.cs_resolve.specs.Narrowed.{sole_body, HoldsSole, HoldsTexts, HoldsBase, Sound, Grown, Refines}
use Rattle.cs_resolve.specs.declared.refinement.Bases.{Bases}
use Rattle.cs_resolve.proofs.BaseLaw.{one_labels}

pub on_ok : {X E : Type 0} {P Q : Type 0} (r : Result X E) → (P → Q) → OnOk r P → OnOk r Q
on_ok (Ok x) f h = f h
on_ok (Err e) f h = tt

pub grown_none : (b : Bases) → Grown b b
grown_none b = record { kept = λ n h. h; more = []; behind = sym (append-nil (keys b.numbers)) }

pub grown_more : (a b c : Bases) → Grown a b → Grown b c → Grown a c
grown_more a b c f g = record {
  kept = λ n h. g.kept n (f.kept n h);
  more = f.more ++ g.more;
  behind = g.behind ∙ ap (λ ks. ks ++ g.more) f.behind ∙ append_assoc (keys a.numbers) f.more g.more;
}

-- one more name
or_cases : (a b : Bool) → (a || b) ≡ true → (a ≡ true) ⊎ (b ≡ true)
or_cases true b h = inl refl
or_cases false b h = inr h

pub names_more : (xs : List (Bor (List ℕ))) (i : ℕ) (d : Bor (List ℕ)) (n : List ℕ) → i < length xs → list_any (λ k. bytes_eq n k.now) (take (i + 1) xs) ≡ true → (list_any (λ k. bytes_eq n k.now) (take i xs) ≡ true) ⊎ (n ≡ (get_or xs i d).now)
names_more xs i d n l h = elim (or_cases (list_any (λ k. bytes_eq n k.now) (take i xs)) (list_any (λ k. bytes_eq n k.now) (get_or xs i d ∷ [])) (sym (ap (list_any (λ k. bytes_eq n k.now)) (take_more xs i d l) ∙ list_any-append (λ k. bytes_eq n k.now) (take i xs) (get_or xs i d ∷ [])) ∙ h)) [
  | inl e ↦ inl e
  | inr e ↦ elim (or_cases (bytes_eq n (get_or xs i d).now) false e) [ inl same ↦ inr ((bytes_eq-Decides n (get_or xs i d).now).0 same) | inr never ↦ cc ]
]

-- ---- sole bodies

sole_one : (es : List Tree) (e : Tree) → sole_body es ≡ Some (Some e) → es ≡ e ∷ []
sole_one [] e h = cc
sole_one (a ∷ []) e h = let same : a ≡ e = cc in ap (λ x. x ∷ []) same
sole_one (a ∷ b ∷ es) e h = cc

pub one_body : {S : Type 0} (m : HashMap (Bor (List ℕ)) (Option (Bor Expr)) S) (ds : List DefinitionTree) (n : List ℕ) (e : Bor Expr) → HoldsSole m ds → get_by (λ k. bytes_eq n k.now) m ≡ Some (Some e) → bodies_of n ds ≡ expr_view e.now ∷ []
one_body m ds n e held is = sole_one (bodies_of n ds) (expr_view e.now) (sym (held n) ∙ ap (option_map (option_map (λ (x : Bor Expr). expr_view x.now))) is)

body_there : (o : Option (Option (Bor Expr))) (e : Tree) → option_map (option_map (λ (x : Bor Expr). expr_view x.now)) o ≡ Some (Some e) → (x : Bor Expr) × (o ≡ Some (Some x)) × (expr_view x.now ≡ e)
body_there None e h = cc
body_there (Some None) e h = cc
body_there (Some (Some x)) e h = let same : expr_view x.now ≡ e = cc in (x, refl, same)

pub body_of : {S : Type 0} (m : HashMap (Bor (List ℕ)) (Option (Bor Expr)) S) (ds : List DefinitionTree) (n : List ℕ) (e : Tree) → HoldsSole m ds → bodies_of n ds ≡ e ∷ [] → (x : Bor Expr) × (get_by (λ k. bytes_eq n k.now) m ≡ Some (Some x)) × (expr_view x.now ≡ e)
body_of m ds n e held is = body_there (get_by (λ k. bytes_eq n k.now) m) e (held n ∙ ap sole_body is)

-- ---- the base that a definition refines

some_same : (x y : Narrowing) → Some x ≡ Some y → x ≡ y
some_same x y h = cc

pub at_index : {X : Type 0} (xs : List X) (i : ℕ) (x : X) → i < length xs → x ≡ get_or xs i x → slice_get xs i ≡ Some x
at_index [] i x l is = absurd (omega arith)
at_index (y ∷ xs) zero x l is = ap Some (sym is)
at_index (y ∷ xs) (suc i) x l is = at_index xs i x (omega arith) is

module _ (ds : List DefinitionTree) (b : Bases) (sound : Sound ds b) (base : List ℕ) (number : ℕ) (at : get_by (λ k. bytes_eq base k.now) b.numbers ≡ Some number) where
  pub at_number : MatchOption (slice_get b.sets.items number) ⊥ (HoldsBase ds base)
  at_number = subst (λ o. MatchOption o (Unit {0}) (λ i. MatchOption (slice_get b.sets.items i) ⊥ (HoldsBase ds base))) at (sound.each base)

  pub some_set : slice_get b.sets.items number ≡ None → ⊥
  some_set none = subst (λ o. MatchOption o ⊥ (HoldsBase ds base)) none at_number

  module _ (s : BTreeSet _) (there : slice_get b.sets.items number ≡ Some s) where
    pub its_set : HoldsBase ds base s
    its_set = subst (λ o. MatchOption o ⊥ (HoldsBase ds base)) there at_number

    module _ (n : List ℕ) (e : Tree) (fs : Fields) (is : bodies_of n ds ≡ e ∷ []) (nar : narrowing_in e ≡ Some (base, fs)) (fits : Bool) (fits_is : (ls : List (List ℕ)) → HoldsTexts s ls → fits ≡ narrows fs ls) where
      pub refines : fits ≡ true → MatchOption (slice_get b.sets.items number) ⊥ (HoldsBase ds n)
      refines does = subst (λ o. MatchOption o ⊥ (HoldsBase ds n)) (sym there) (its_set.0, by_refinement is nar its_set.1 (sym (fits_is its_set.0 its_set.2) ∙ does), its_set.2)

      pub refines_not : fits ≡ false → (m : List ℕ) → Refines ds n m → ⊥
      refines_not fails m r =
          let same : e ≡ r.body = (let h : e ∷ [] ≡ r.body ∷ [] = sym is ∙ r.is in cc) in
          let pair = some_same (base, fs) (m, r.fields) (sym nar ∙ ap narrowing_in same ∙ r.narrowed) in
          let name : base ≡ m = ap (λ (p : Narrowing). p.0) pair in
          let fields : fs ≡ r.fields = ap (λ (p : Narrowing). p.1) pair in
          let labels = one_labels ds m its_set.0 r.labels (subst (λ x. IsBase ds x its_set.0) name its_set.1) r.base in
          let h : false ≡ true = sym fails ∙ fits_is its_set.0 its_set.2 ∙ ap (λ x. narrows x its_set.0) fields ∙ ap (narrows r.fields) labels ∙ r.fits in
          cc

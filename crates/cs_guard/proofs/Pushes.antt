-- Numbers pushed one after another, and the shapes that they are read from.
use Rattle.std.proofs.Common.{◌≡◌, ℕ, ◌+◌, ◌<◌, Bool, true, ◌&&◌, List, [], ◌∷◌, ◌++◌, Option, map, length, take, get_or, Vec, Global, Result, Ok, Err, OnOk, sym, ap, ◌∙◌, append_assoc}
use Rattle.std.specs.List.{list_all}
use Rattle.std.specs.Option.{option_map_or}
use Rattle.std.proofs.lemmas.List.{take_more}
use Rattle.std.proofs.lemmas.List.{map-append, append-nil}
use Rattle.std.proofs.lemmas.List.Folds.{list_all_more}
use Rattle.std.proofs.lemmas.Bool.{and_parts}
use Rattle.cs_package.specs.Expression.{Expression, Declaration}
use Rattle.cs_package.specs.View.{expression_of, part_of, rest_of, expressions_of, declarations_of, is_known, is_known_end, is_known_part}
use Rattle.cs_package.proofs.Views.{of-And, of-Or, of-Struct, of-List, known-And, known-Or, known-Struct, known-List}
use Rattle.cs_package.specs.declared.shape.Shape as Shapes
use Rattle.cs_package.specs.declared.shape.Shape.{Shape}
use Rattle.cs_package.specs.declared.shape.ShapeEnd.{ShapeEnd}
use Rattle.cs_package.specs.declared.shape.Part.{Part}
use Rattle.cs_guard.specs.Taken.{behind_disjunction, inside_part, of_field, taken, taken_all, taken_fields, taken_rest}
use Rattle.cs_guard.specs.declared.references.Followed.{Followed}
use Rattle.cs_guard.specs.Pushed.{Pushed, named}

-- ---- what was pushed

pub pushed_more : (a b c : List ℕ) (f g : List (List ℕ) → List (List ℕ)) (k l : ℕ → Bool) → Pushed a b f k → Pushed b c g l → Pushed a c (λ ns. f ns ++ g ns) (λ n. k n && l n)
pushed_more a b c f g k l p q = record {
  behind = λ ns. q.behind ns ∙ ap (λ xs. xs ++ g ns) (p.behind ns) ∙ append_assoc (named ns a) (f ns) (g ns);
  within = λ n e old. let h = and_parts (k n) (l n) e in q.within n h.1 (p.within n h.0 old);
}

-- the same names, and no less is known
pub pushed_as : (a b : List ℕ) (f g : List (List ℕ) → List (List ℕ)) (k l : ℕ → Bool) → ((ns : List (List ℕ)) → f ns ≡ g ns) → ((n : ℕ) → l n ≡ true → k n ≡ true) → Pushed a b f k → Pushed a b g l
pushed_as a b f g k l same known p = record {
  behind = λ ns. p.behind ns ∙ ap (λ xs. named ns a ++ xs) (same ns);
  within = λ n e. p.within n (known n e);
}

pub on_ok : {X E : Type 0} {P Q : Type 0} (r : Result X E) → (P → Q) → OnOk r P → OnOk r Q
on_ok (Ok x) f p = f p
on_ok (Err e) f p = tt

-- ---- one more element of a list

module _ {X : Type 0} (names : List (List ℕ) → List X → List (List ℕ)) (here : List (List ℕ) → X → List (List ℕ)) (known : ℕ → X → Bool) (joins : (ns : List (List ℕ)) (xs : List X) (x : X) → names ns (xs ++ x ∷ []) ≡ names ns xs ++ here ns x) where
  pub pushed_next : (a b c : List ℕ) (xs : List X) (i : ℕ) (x : X) → i < length xs → x ≡ get_or xs i x → Pushed a b (λ ns. names ns (take i xs)) (λ n. list_all (known n) (take i xs)) → Pushed b c (λ ns. here ns x) (λ n. known n x)
      → Pushed a c (λ ns. names ns (take (i + 1) xs)) (λ n. list_all (known n) (take (i + 1) xs))
  pushed_next a b c xs i x l is p q =
      pushed_as a c (λ ns. names ns (take i xs) ++ here ns x) (λ ns. names ns (take (i + 1) xs)) (λ n. list_all (known n) (take i xs) && known n x) (λ n. list_all (known n) (take (i + 1) xs))
      (λ ns. sym (ap (names ns) (take_more xs i x l ∙ ap (λ y. take i xs ++ y ∷ []) (sym is)) ∙ joins ns (take i xs) x))
      (λ n e. ap (λ y. list_all (known n) (take i xs) && known n y) is ∙ sym (list_all_more (known n) xs i x l) ∙ e)
      (pushed_more a b c (λ ns. names ns (take i xs)) (λ ns. here ns x) (λ n. list_all (known n) (take i xs)) (λ n. known n x) p q)

-- ---- what a walk takes, where it follows these references

module _ (f : Followed) where
  all_join : (es : List Expression) (e : Expression) → taken_all f (expressions_of (es ++ e ∷ [])) ≡ taken_all f (expressions_of es) ++ taken f e
  all_join [] e = append-nil (taken f e)
  all_join (d ∷ es) e = ap (λ ns. taken f d ++ ns) (all_join es e) ∙ sym (append_assoc (taken f d) (taken_all f (expressions_of es)) (taken f e))

  pub shapes_join : {X : Type 0} (v : X → Expression) (xs : List X) (x : X) → taken_all f (expressions_of (map v (xs ++ x ∷ []))) ≡ taken_all f (expressions_of (map v xs)) ++ taken f (v x)
  shapes_join v xs x = ap (λ es. taken_all f (expressions_of es)) (map-append v xs (x ∷ [])) ∙ all_join (map v xs) (v x)

  abbrev here : Declaration Expression → List (List ℕ)
  here d = of_field d.mark f (taken f d.value)

  under_join : (ds : List (Declaration Expression)) (d : Declaration Expression) → taken_fields f (declarations_of (ds ++ d ∷ [])) ≡ taken_fields f (declarations_of ds) ++ here d
  under_join [] d = append-nil (here d)
  under_join (c ∷ ds) d = ap (λ ns. here c ++ ns) (under_join ds d) ∙ sym (append_assoc (here c) (taken_fields f (declarations_of ds)) (here d))

  pub parts_join : {X : Type 0} (v : X → Declaration Expression) (xs : List X) (x : X) → taken_fields f (declarations_of (map v (xs ++ x ∷ []))) ≡ taken_fields f (declarations_of (map v xs)) ++ here (v x)
  parts_join v xs x = ap (λ ds. taken_fields f (declarations_of ds)) (map-append v xs (x ∷ [])) ∙ under_join (map v xs) (v x)

  -- ---- each form of shape

  -- the numbers of operands, as those of the shape that has them
  abbrev pub PushedAll : List ℕ → List ℕ → List Shape → Type 0
  PushedAll a b xs = Pushed a b (λ ns. taken_all f (expressions_of (map (expression_of ns) xs))) (λ n. list_all (is_known n) xs)

  abbrev pub PushedParts : List ℕ → List ℕ → List Part → Type 0
  PushedParts a b xs = Pushed a b (λ ns. taken_fields f (declarations_of (map (part_of ns) xs))) (λ n. list_all (is_known_part n) xs)

  abbrev pub PushedEnd : List ℕ → List ℕ → ShapeEnd → Type 0
  PushedEnd a b end = Pushed a b (λ ns. taken_rest f (rest_of ns end)) (λ n. is_known_end n end)

  abbrev pub PushedOf : List ℕ → List ℕ → Shape → Type 0
  PushedOf a b s = Pushed a b (λ ns. taken f (expression_of ns s)) (λ n. is_known n s)

  pub pushed_And : (a b : List ℕ) (s : Shape) (v : Vec Shape Global) → s ≡ Shapes.And v → PushedAll a b v.items → PushedOf a b s
  pushed_And a b s v is p = pushed_as a b _ _ _ _ (λ ns. sym (ap (taken f) (ap (expression_of ns) is ∙ of-And ns v))) (λ n e. sym (ap (is_known n) is ∙ known-And n v) ∙ e) p

  -- the same, where a walk goes on in another way, or not at all
  abbrev pub PushedWhere : Option Followed → List ℕ → List ℕ → List Shape → Type 0
  PushedWhere o a b xs = Pushed a b (λ ns. option_map_or (λ g. taken_all g (expressions_of (map (expression_of ns) xs))) o []) (λ n. list_all (is_known n) xs)

  abbrev pub PushedPartsWhere : Option Followed → List ℕ → List ℕ → List Part → Type 0
  PushedPartsWhere o a b xs = Pushed a b (λ ns. option_map_or (λ g. taken_fields g (declarations_of (map (part_of ns) xs))) o []) (λ n. list_all (is_known_part n) xs)

  pub pushed_Or : (a b : List ℕ) (s : Shape) (v : Vec Shape Global) → s ≡ Shapes.Or v → PushedWhere (behind_disjunction f) a b v.items → PushedOf a b s
  pushed_Or a b s v is p = pushed_as a b _ _ _ _ (λ ns. sym (ap (taken f) (ap (expression_of ns) is ∙ of-Or ns v))) (λ n e. sym (ap (is_known n) is ∙ known-Or n v) ∙ e) p

  pub pushed_List : (a b c : List ℕ) (s : Shape) (v : Vec Shape Global) (end : ShapeEnd) → s ≡ Shapes.List v end → PushedWhere (inside_part f) a b v.items → PushedEnd b c end → PushedOf a c s
  pushed_List a b c s v end is p q =
      pushed_as a c _ _ _ _ (λ ns. sym (ap (taken f) (ap (expression_of ns) is ∙ of-List ns v end))) (λ n e. sym (ap (is_known n) is ∙ known-List n v end) ∙ e)
      (pushed_more a b c (λ ns. option_map_or (λ g. taken_all g (expressions_of (map (expression_of ns) v.items))) (inside_part f) []) (λ ns. taken_rest f (rest_of ns end)) (λ n. list_all (is_known n) v.items) (λ n. is_known_end n end) p q)

  pub pushed_Struct : (a b : List ℕ) (s : Shape) (v : Vec Part Global) (opened : Bool) → s ≡ Shapes.Struct v opened → PushedPartsWhere (inside_part f) a b v.items → PushedOf a b s
  pushed_Struct a b s v opened is p = pushed_as a b _ _ _ _ (λ ns. sym (ap (taken f) (ap (expression_of ns) is ∙ of-Struct ns v opened))) (λ n e. sym (ap (is_known n) is ∙ known-Struct n v opened) ∙ e) p

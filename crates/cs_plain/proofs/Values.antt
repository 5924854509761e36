-- Plain values, and the same once more.
use Rattle.std.proofs.Common.{◌≡◌, ℕ, suc, ◌<◌, ◌≤◌, nat_le, arith, Bool, true, false, ◌&&◌, not, nat_eq, cond, List, [], ◌∷◌, Option, Some, None, map, drop, length, refl, sym, ap, ◌∙◌}
use Rattle.std.specs.Option.{option_map}
use Rattle.std.proofs.lemmas.Bool.Decides.{nat_tests}
use Rattle.cs_grammar.specs.Tree.{Tree, Trees, reference}
use Rattle.cs_grammar.specs.View.{expr_view, exprs_view}
use Rattle.cs_grammar.specs.declared.ast.Expr.{Expr}
use Rattle.cs_plain.specs.Bodies.{Body, body_view, bodies_of, values_of}
use Rattle.cs_plain.specs.References.{is_among}
use Rattle.cs_plain.specs.declared.bodies.Body as rust
use Rattle.cs_plain.specs.Checks.{fitting}
use Rattle.cs_plain.specs.Placed.{fits, shaped, in_place, sole_plain, are_none, value_of}
use Rattle.cs_plain.specs.declared.standing.Standing.{Standing}
use Rattle.cs_plain.specs.Plain.{is_plain, count, are_few, only_plain}

counted : (es : List Expr) → count (exprs_view es) ≡ length es
counted [] = refl
counted (e ∷ es) = ap suc (counted es)

many_of : (n : ℕ) → 8 < n → nat_le n 8 ≡ false
many_of n l = by (nat_le n 8) refl
  where
    by : (b : Bool) → nat_le n 8 ≡ b → b ≡ false
    by true e = absurd (grind (arith, nat_tests))
    by false e = refl

few_of : (n : ℕ) → n ≤ 8 → nat_le n 8 ≡ true
few_of n l = by (nat_le n 8) refl
  where
    by : (b : Bool) → nat_le n 8 ≡ b → b ≡ true
    by false e = absurd (grind (arith, nat_tests))
    by true e = refl

pub many : (es : List Expr) → 8 < length es → are_few (exprs_view es) ≡ false
many es l = ap (λ n. nat_le n 8) (counted es) ∙ many_of (length es) l

pub few : (es : List Expr) → length es ≤ 8 → are_few (exprs_view es) ≡ true
few es l = ap (λ n. nat_le n 8) (counted es) ∙ few_of (length es) l

-- operands of `&` or `|`, which are as they should be each, or aren't
module _ (form : Trees → Tree) (es : Trees) where
  pub too_many : (a b : Bool) → a ≡ false → None ≡ cond (a && b) (Some (form es)) None
  too_many true b h = cc
  too_many false b h = refl

  pub all_copied : (a b : Bool) (fs : Trees) → a ≡ true → Some fs ≡ cond b (Some es) None → Some (form fs) ≡ cond (a && b) (Some (form es)) None
  all_copied true true fs h k = ap (option_map form) k
  all_copied true false fs h k = cc
  all_copied false b fs h k = cc

  pub not_copied : (a b : Bool) → None ≡ cond b (Some es) None → None ≡ cond (a && b) (Some (form es)) None
  not_copied a true k = cc
  not_copied true false k = refl
  not_copied false false k = refl

-- what is only one where it is so
pub is_so : {A : Type 0} (b : Bool) (x y : A) → Some x ≡ cond b (Some y) None → b ≡ true
is_so true x y h = refl
is_so false x y h = cc

pub same_so : {A : Type 0} (b : Bool) (x y : A) → Some x ≡ cond b (Some y) None → x ≡ y
same_so true x y h = cc
same_so false x y h = cc

pub not_so : {A : Type 0} (b : Bool) (y : A) → None ≡ cond b (Some y) None → b ≡ false
not_so true y h = cc
not_so false y h = refl

-- ---- values that may stand where a reference does

pub fits_there : (p : Standing) (e : Tree) → fits p e ≡ true → fitting p (only_plain e) ≡ only_plain e
fits_there p e h = by (is_plain e)
  where
    by : (b : Bool) → fitting p (cond b (Some e) None) ≡ cond b (Some e) None
    by true = ap (λ b. cond b (Some e) None) h
    by false = refl

pub fits_nowhere : (p : Standing) (e : Tree) → fits p e ≡ false → fitting p (only_plain e) ≡ None
fits_nowhere p e h = by (is_plain e)
  where
    by : (b : Bool) → fitting p (cond b (Some e) None) ≡ None
    by true = ap (λ b. cond b (Some e) None) h
    by false = refl

pub put_there : (p : Standing) (s : List ℕ) (o : ℕ) (v : Option Tree) (e : Tree) → Some e ≡ fitting p v → shaped p e ≡ in_place p s o v
put_there p s o None e h = cc
put_there p s o (Some f) e h = by (fits p f) h
  where
    by : (b : Bool) → Some e ≡ cond b (Some f) None → shaped p e ≡ cond b (shaped p f) (reference s o)
    by true k = let same : e ≡ f = cc in ap (shaped p) same
    by false k = cc

pub stays_there : (p : Standing) (s : List ℕ) (o : ℕ) (v : Option Tree) → None ≡ fitting p v → reference s o ≡ in_place p s o v
stays_there p s o None h = refl
stays_there p s o (Some f) h = by (fits p f) h
  where
    by : (b : Bool) → None ≡ cond b (Some f) None → reference s o ≡ cond b (shaped p f) (reference s o)
    by true k = cc
    by false k = refl

-- ---- the sole body of a name

pub sole_value : (xs : List rust.Body) (x : rust.Body) → length xs < 2 → xs ≡ x ∷ drop 1 xs → sole_plain (map (λ b. b.value) (map body_view xs)) ≡ only_plain (expr_view x.value.now)
sole_value [] x l is = let none : length {A = rust.Body} [] ≡ suc (length {A = rust.Body} []) = ap length is in absurd (omega (arith, none))
sole_value (y ∷ []) x l is = ap (λ ys. sole_plain (map (λ b. b.value) (map body_view ys))) is
sole_value (y ∷ z ∷ ys) x l is = absurd (omega (arith, l))

pub some_values : (xs : List rust.Body) (b : Bool) → b ≡ nat_eq (length xs) 0 → b ≡ false → are_none (map (λ b. b.value) (map body_view xs)) ≡ false
some_values [] b h k = cc
some_values (x ∷ xs) b h k = refl

pub value_there : (ss : List (List ℕ)) (all here : List Body) (s : List ℕ) (mine theirs : List Body) (v : Option Tree) → is_among ss s ≡ true
    → mine ≡ bodies_of s here → are_none (map (λ b. b.value) mine) ≡ false → theirs ≡ bodies_of s all → sole_plain (map (λ b. b.value) theirs) ≡ v → v ≡ value_of ss all here s
value_there ss all here s mine theirs v named is some are sole =
    by (is_among ss s) (are_none (values_of s here)) named (ap (λ bs. are_none (map (λ b. b.value) bs)) (sym is) ∙ some)
  where
    whole : v ≡ sole_plain (values_of s all)
    whole = sym sole ∙ ap (λ bs. sole_plain (map (λ b. b.value) bs)) are

    by : (a b : Bool) → a ≡ true → b ≡ false → v ≡ cond (a && not b) (sole_plain (values_of s all)) None
    by true false h k = whole
    by true true h k = cc
    by false b h k = cc

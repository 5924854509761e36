-- A rule looks at the verdicts on its parts alone.
use Rattle.std.specs.Prelude.{◌≡◌, ℕ, ◌<◌, Bool, true, false, ◌&&◌, ◌||◌, List, [], ◌∷◌, Some, if◌then◌else◌}
use Rattle.std.proofs.Common.{refl, ap, ap₂}
use Rattle.std.specs.List.{list_all, list_any, AllByRecursion as Each}
use Rattle.std.specs.Str.{bytes_eq}
use Rattle.cs_document.specs.Document.{Entry, under}
use Rattle.cs_document.specs.Opened.{Opened, a_null, a_boolean, an_integer, a_text, a_list, an_object}
use Rattle.cs_document.specs.Inside.{InsideBelow}
use Rattle.cs_document.proofs.Each.{each_map, all_same, any_same}
use Rattle.cs_package.specs.Expression.{Declaration, is_every}
use Rattle.cs_instance.specs.Constraint.{Rest, nothing, anything, each, Constraint, simple, all_of, any_of, object_of, list_of, is_satisfied, allows, value_holds, declaration_holds, rest_holds, elements_hold}
use Rattle.cs_instance.specs.Numbering.{PartsBelow, RestBelow}

-- two ways to answer that agree below i, r and m
module _ (i r m : ℕ) (here here' : ℕ → Bool) (inside inside' : ℕ → ℕ → Bool) (h : (d : ℕ) → d < r → here d ≡ here' d) (k : (y p : ℕ) → y < i → p < m → inside y p ≡ inside' y p) where
  under_same : (d : Declaration ℕ) → d.value < m → (l : List ℕ) (ms : List (Entry ℕ)) → Each (λ (e : Entry ℕ). e.1 < i) ms → value_holds inside d (under l ms) ≡ value_holds inside' d (under l ms)
  under_same d q l [] w = refl
  under_same d q l (e ∷ ms) w =
      elim (bytes_eq l e.0) as (λ t. value_holds inside d (if t then Some e.1 else under l ms) ≡ value_holds inside' d (if t then Some e.1 else under l ms)) [
        | true ↦ k e.1 d.value w.0 q
        | false ↦ under_same d q l ms w.1
      ]

  every_same : (p : ℕ) → p < m → (ms : List (Entry ℕ)) → Each (λ (e : Entry ℕ). e.1 < i) ms → list_all (λ (e : Entry ℕ). inside e.1 p) ms ≡ list_all (λ (e : Entry ℕ). inside' e.1 p) ms
  every_same p q ms w = all_same (λ (e : Entry ℕ). inside e.1 p) (λ (e : Entry ℕ). inside' e.1 p) ms (each_map (λ (e : Entry ℕ). e.1 < i) (λ (e : Entry ℕ). inside e.1 p ≡ inside' e.1 p) (λ e l. k e.1 p l q) ms w)

  declaration_same : (d : Declaration ℕ) (ms : List (Entry ℕ)) → d.value < m → Each (λ (e : Entry ℕ). e.1 < i) ms → declaration_holds inside d ms ≡ declaration_holds inside' d ms
  declaration_same d ms q w = ap₂ (λ a b. if is_every d.mark then a else b) (every_same d.value q ms w) (under_same d q d.label ms w)

  fields_same : (ds : List (Declaration ℕ)) (ms : List (Entry ℕ)) → Each (λ (d : Declaration ℕ). d.value < m) ds → Each (λ (e : Entry ℕ). e.1 < i) ms → list_all (λ d. declaration_holds inside d ms) ds ≡ list_all (λ d. declaration_holds inside' d ms) ds
  fields_same [] ms b w = refl
  fields_same (d ∷ ds) ms b w = ap₂ ◌&&◌ (declaration_same d ms b.0 w) (fields_same ds ms b.1 w)

  rest_same : (rest : Rest ℕ) (ys : List ℕ) → RestBelow m rest → Each (λ y. y < i) ys → rest_holds inside rest ys ≡ rest_holds inside' rest ys
  rest_same nothing [] b w = refl
  rest_same nothing (y ∷ ys) b w = refl
  rest_same anything ys b w = refl
  rest_same (each p) ys b w = all_same (λ y. inside y p) (λ y. inside' y p) ys (each_map (λ y. y < i) (λ y. inside y p ≡ inside' y p) (λ y l. k y p l b) ys w)

  elements_same : (es : List ℕ) (rest : Rest ℕ) (ys : List ℕ) → Each (λ p. p < m) es → RestBelow m rest → Each (λ y. y < i) ys → elements_hold inside es rest ys ≡ elements_hold inside' es rest ys
  elements_same [] rest ys b e w = rest_same rest ys e w
  elements_same (p ∷ ps) rest [] b e w = refl
  elements_same (p ∷ ps) rest (y ∷ ys) b e w = ap₂ ◌&&◌ (k y p w.0 b.0) (elements_same ps rest ys b.1 e w.1)

  here_same : (ds : List ℕ) → Each (λ d. d < r) ds → Each (λ d. here d ≡ here' d) ds
  here_same = each_map (λ d. d < r) (λ d. here d ≡ here' d) h

  pub numbers_same : (a : Constraint ℕ ℕ) (x : Opened ℕ) → PartsBelow r m a → InsideBelow i x → is_satisfied here inside a x ≡ is_satisfied here' inside' a x
  numbers_same (simple p) x b w = refl
  numbers_same (all_of ds) x b w = all_same here here' ds (here_same ds b)
  numbers_same (any_of ds) x b w = any_same here here' ds (here_same ds b)
  numbers_same (object_of ds o) (an_object ms) b w = ap (λ t. t && (o || list_all (λ (m : Entry ℕ). list_any (λ (d : Declaration ℕ). allows d m.0) ds) ms)) (fields_same ds ms b w)
  numbers_same (object_of ds o) a_null b w = refl
  numbers_same (object_of ds o) (a_boolean t) b w = refl
  numbers_same (object_of ds o) (an_integer n) b w = refl
  numbers_same (object_of ds o) (a_text s) b w = refl
  numbers_same (object_of ds o) (a_list ys) b w = refl
  numbers_same (list_of es rest) (a_list ys) b w = elements_same es rest ys b.0 b.1 w
  numbers_same (list_of es rest) a_null b w = refl
  numbers_same (list_of es rest) (a_boolean t) b w = refl
  numbers_same (list_of es rest) (an_integer n) b w = refl
  numbers_same (list_of es rest) (a_text s) b w = refl
  numbers_same (list_of es rest) (an_object ms) b w = refl

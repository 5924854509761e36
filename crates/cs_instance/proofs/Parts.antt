-- What is asked rests on the verdicts on its parts alone.
use Rattle.std.proofs.Common.{◌≡◌, ℕ, Bool, true, false, ◌&&◌, ◌||◌, List, [], ◌∷◌, cond, if◌then◌else◌, Some, refl, ap, ap₂}
use Rattle.std.specs.List.{list_all, list_any, AllByRecursion as Each}
use Rattle.std.specs.Str.{bytes_eq}
use Rattle.cs_document.specs.Document.{Entry, under}
use Rattle.cs_document.specs.Opened.{Opened, a_null, a_boolean, an_integer, a_text, a_list, an_object}
use Rattle.cs_document.proofs.Each.{each_map, all_same, any_same}
use Rattle.cs_document.proofs.Children.{values, within}
use Rattle.cs_package.specs.Expression.{Declaration, is_every}
use Rattle.cs_instance.specs.Constraint.{Rest, nothing, anything, each, Constraint, simple, all_of, any_of, object_of, list_of, is_satisfied, allows, value_holds, declaration_holds, rest_holds, elements_hold}

-- the parts asked of the same document
abbrev pub here_parts : {D N : Type 0} → Constraint D N → List D
here_parts (all_of rs) = rs
here_parts (any_of rs) = rs
here_parts _ = []

module _ {N : Type 0} where
  abbrev pub declared_values : List (Declaration N) → List N
  declared_values [] = []
  declared_values (d ∷ ds) = d.value ∷ declared_values ds

  abbrev pub rest_parts : Rest N → List N
  rest_parts (each e) = e ∷ []
  rest_parts _ = []

  abbrev pub list_parts : List N → Rest N → List N
  list_parts [] rest = rest_parts rest
  list_parts (e ∷ es) rest = e ∷ list_parts es rest

-- the parts asked of documents inside
abbrev pub inner_parts : {D N : Type 0} → Constraint D N → List N
inner_parts (object_of ds opened) = declared_values ds
inner_parts (list_of es rest) = list_parts es rest
inner_parts _ = []

module _ {A N : Type 0} (inside inside' : A → N → Bool) where
  abbrev pub SameAt : List N → A → Type 0
  SameAt es y = Each (λ e. inside y e ≡ inside' y e) es

  value_same : (d : Declaration N) (k : List ℕ) (ms : List (Entry A)) → Each (λ y. inside y d.value ≡ inside' y d.value) (values ms) → value_holds inside d (under k ms) ≡ value_holds inside' d (under k ms)
  value_same d k [] h = refl
  value_same d k (m ∷ ms) h =
      elim (bytes_eq k m.0) as (λ b. value_holds inside d (cond b (Some m.1) (under k ms)) ≡ value_holds inside' d (cond b (Some m.1) (under k ms))) [
        | true ↦ h.0
        | false ↦ value_same d k ms h.1
      ]

  every_same : (e : N) (ms : List (Entry A)) → Each (λ y. inside y e ≡ inside' y e) (values ms) → list_all (λ (m : Entry A). inside m.1 e) ms ≡ list_all (λ (m : Entry A). inside' m.1 e) ms
  every_same e [] h = refl
  every_same e (m ∷ ms) h = ap₂ ◌&&◌ h.0 (every_same e ms h.1)

  declaration_same : (d : Declaration N) (ms : List (Entry A)) → Each (λ y. inside y d.value ≡ inside' y d.value) (values ms) → declaration_holds inside d ms ≡ declaration_holds inside' d ms
  declaration_same d ms h = ap₂ (λ a b. if is_every d.mark then a else b) (every_same d.value ms h) (value_same d d.label ms h)

  declarations_same : (ds : List (Declaration N)) (ms : List (Entry A)) → Each (SameAt (declared_values ds)) (values ms) → list_all (λ d. declaration_holds inside d ms) ds ≡ list_all (λ d. declaration_holds inside' d ms) ds
  declarations_same [] ms h = refl
  declarations_same (d ∷ ds) ms h =
      ap₂ ◌&&◌ (declaration_same d ms (each_map _ _ (λ y s. s.0) (values ms) h)) (declarations_same ds ms (each_map _ _ (λ y s. s.1) (values ms) h))

  rest_same : (rest : Rest N) (ys : List A) → Each (SameAt (rest_parts rest)) ys → rest_holds inside rest ys ≡ rest_holds inside' rest ys
  rest_same nothing [] h = refl
  rest_same nothing (y ∷ ys) h = refl
  rest_same anything ys h = refl
  rest_same (each e) ys h = all_same _ _ ys (each_map _ _ (λ y s. s.0) ys h)

  elements_same : (es : List N) (rest : Rest N) (ys : List A) → Each (SameAt (list_parts es rest)) ys → elements_hold inside es rest ys ≡ elements_hold inside' es rest ys
  elements_same [] rest ys h = rest_same rest ys h
  elements_same (e ∷ es) rest [] h = refl
  elements_same (e ∷ es) rest (y ∷ ys) h = ap₂ ◌&&◌ h.0.0 (elements_same es rest ys (each_map _ _ (λ z s. s.1) ys h.1))

module _ {A D N : Type 0} (here here' : D → Bool) (inside inside' : A → N → Bool) where
  -- what is asked of a document rests on the parts alone
  pub satisfied_same : (a : Constraint D N) (x : Opened A) → Each (λ r. here r ≡ here' r) (here_parts a) → Each (SameAt inside inside' (inner_parts a)) (within x) → is_satisfied here inside a x ≡ is_satisfied here' inside' a x
  satisfied_same (simple p) x d w = refl
  satisfied_same (all_of rs) x d w = all_same here here' rs d
  satisfied_same (any_of rs) x d w = any_same here here' rs d
  satisfied_same (object_of ds o) (an_object ms) d w = ap (λ b. b && (o || list_all (λ (m : Entry A). list_any (λ (c : Declaration N). allows c m.0) ds) ms)) (declarations_same inside inside' ds ms w)
  satisfied_same (object_of ds o) a_null d w = refl
  satisfied_same (object_of ds o) (a_boolean b) d w = refl
  satisfied_same (object_of ds o) (an_integer n) d w = refl
  satisfied_same (object_of ds o) (a_text s) d w = refl
  satisfied_same (object_of ds o) (a_list ys) d w = refl
  satisfied_same (list_of es rest) (a_list ys) d w = elements_same inside inside' es rest ys w
  satisfied_same (list_of es rest) a_null d w = refl
  satisfied_same (list_of es rest) (a_boolean b) d w = refl
  satisfied_same (list_of es rest) (an_integer n) d w = refl
  satisfied_same (list_of es rest) (a_text s) d w = refl
  satisfied_same (list_of es rest) (an_object ms) d w = refl

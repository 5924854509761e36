-- A literal without `[string]` asks only what is under its labels, and allows only those. So the definitions of an
-- environment without it have the instances that they had.
use Rattle.std.proofs.Common.{◌≡◌, ℕ, Bool, true, false, ◌&&◌, ◌||◌, List, [], ◌∷◌, cond, if◌then◌else◌, map, Option, Some, None, refl, sym, ap, ap₂, ◌∙◌}
use Rattle.std.specs.List.{list_all, list_any, AllByRecursion as Each}
use Rattle.std.specs.Str.{bytes_eq}
use Rattle.cs_document.specs.Document.{Document, Entry, under}
use Rattle.cs_document.specs.Opened.{Opened, a_null, a_boolean, an_integer, a_text, a_list, an_object, opened}
use Rattle.cs_document.proofs.Each.{each_map}
use Rattle.cs_document.proofs.Children.{children, each_within}
use Rattle.cs_guard.specs.Guarded.{IsGuarded}
use Rattle.cs_package.specs.Environment.{Environment, bodies}
use Rattle.cs_package.specs.Expression as cue
use Rattle.cs_package.specs.Expression.{Declaration, DeclarationMark, is_every, Expression, Expressions, Declarations, operands, declarations}
use Rattle.cs_package.specs.Labels.{HasLabel, IsLabelled, AreLabelled, AreLabelledFields, IsLabelledRest, IsLabelledEnvironment}
use Rattle.cs_instance.specs.Constraint.{Constraint, object_of, is_satisfied, allows, value_holds, declaration_holds, fields_hold}
use Rattle.cs_instance.specs.Earlier.{fields_hold_earlier, is_satisfied_earlier, IsEarlierRule, IsInstanceEarlier}
use Rattle.cs_instance.specs.Instance.{Rule, definition, node, rest_of, all_bodies, constraint_of, IsInstance}
use Rattle.cs_instance.proofs.Induction.{guarded-induction}
use Rattle.cs_instance.proofs.Parts.{here_parts, declared_values, list_parts, inner_parts, satisfied_same}

-- no declaration is that of every key
abbrev HasLabels : {N : Type 0} → List (Declaration N) → Type 0
HasLabels ds = Each (λ d. is_every d.mark ≡ false) ds

-- nor one that a constraint has
abbrev AsksLabels : {D N : Type 0} → Constraint D N → Type 0
AsksLabels (object_of ds opened) = HasLabels ds
AsksLabels _ = Unit {0}

module _ {A N : Type 0} (inside : A → N → Bool) where
  values_hold : (ds : List (Declaration N)) (ms : List (Entry A)) → HasLabels ds → list_all (λ d. declaration_holds inside d ms) ds ≡ list_all (λ d. value_holds inside d (under d.label ms)) ds
  values_hold [] ms h = refl
  values_hold (d ∷ ds) ms h = ap₂ ◌&&◌ (ap (λ b. if b then list_all (λ (m : Entry A). inside m.1 d.value) ms else value_holds inside d (under d.label ms)) h.0) (values_hold ds ms h.1)

  key_allowed : (ds : List (Declaration N)) (k : List ℕ) → HasLabels ds → list_any (λ d. allows d k) ds ≡ list_any (λ (d : Declaration N). bytes_eq k d.label) ds
  key_allowed [] k h = refl
  key_allowed (d ∷ ds) k h = ap₂ ◌||◌ (ap (λ b. b || bytes_eq k d.label) h.0) (key_allowed ds k h.1)

  keys_allowed : (ds : List (Declaration N)) (ms : List (Entry A)) → HasLabels ds → list_all (λ (m : Entry A). list_any (λ d. allows d m.0) ds) ms ≡ list_all (λ (m : Entry A). list_any (λ (d : Declaration N). bytes_eq m.0 d.label) ds) ms
  keys_allowed ds [] h = refl
  keys_allowed ds (m ∷ ms) h = ap₂ ◌&&◌ (key_allowed ds m.0 h) (keys_allowed ds ms h)

  pub by_labels : (ds : List (Declaration N)) (opened : Bool) (ms : List (Entry A)) → HasLabels ds → fields_hold inside ds opened ms ≡ fields_hold_earlier inside ds opened ms
  by_labels ds opened ms h = ap₂ (λ a b. a && (opened || b)) (values_hold ds ms h) (keys_allowed ds ms h)

module _ {A D N : Type 0} (here : D → Bool) (inside : A → N → Bool) where
  satisfied_by_labels : (a : Constraint D N) (x : Opened A) → AsksLabels a → is_satisfied here inside a x ≡ is_satisfied_earlier here inside a x
  satisfied_by_labels (object_of ds o) a_null h = refl
  satisfied_by_labels (object_of ds o) (a_boolean b) h = refl
  satisfied_by_labels (object_of ds o) (an_integer z) h = refl
  satisfied_by_labels (object_of ds o) (a_text s) h = refl
  satisfied_by_labels (object_of ds o) (a_list ys) h = refl
  satisfied_by_labels (object_of ds o) (an_object ms) h = by_labels inside ds o ms h
  satisfied_by_labels _ x h = refl

-- ---- the parts of a rule without `[string]` have none

mark_not_every : (m : DeclarationMark) → HasLabel m → is_every m ≡ false
mark_not_every cue.regular h = refl
mark_not_every cue.optional h = refl
mark_not_every cue.required h = refl
mark_not_every cue.every h = absurd h

declarations_labelled : (ds : Declarations) → AreLabelledFields ds → HasLabels (declarations ds)
declarations_labelled cue.no_declarations h = tt
declarations_labelled (cue.declaration l m e ds) h = (mark_not_every m h.0, declarations_labelled ds h.2)

values_labelled : (ds : Declarations) → AreLabelledFields ds → Each IsLabelled (declared_values (declarations ds))
values_labelled cue.no_declarations h = tt
values_labelled (cue.declaration l m e ds) h = (h.1, values_labelled ds h.2)

operands_labelled : (es : Expressions) → AreLabelled es → Each IsEarlierRule (map node (operands es))
operands_labelled cue.no_expressions h = tt
operands_labelled (cue.expression e es) h = (h.0, operands_labelled es h.1)

elements_labelled : (es : Expressions) (r : cue.Rest) → AreLabelled es → IsLabelledRest r → Each IsLabelled (list_parts (operands es) (rest_of r))
elements_labelled cue.no_expressions cue.closed h k = tt
elements_labelled cue.no_expressions cue.any h k = tt
elements_labelled cue.no_expressions (cue.each e) h k = (k, tt)
elements_labelled (cue.expression e es) r h k = (h.0, elements_labelled es r h.1 k)

bodies_labelled : (bs : List Expression) → Each IsLabelled bs → Each IsEarlierRule (map node bs)
bodies_labelled [] h = tt
bodies_labelled (b ∷ bs) h = (h.0, bodies_labelled bs h.1)

-- the bodies of a name, where it is declared
abbrev SomeLabelled : Option (List Expression) → Type 0
SomeLabelled None = Unit {0}
SomeLabelled (Some bs) = Each IsLabelled bs

one_labelled : (b : Bool) (bs : List Expression) (o : Option (List Expression)) → Each IsLabelled bs → SomeLabelled o → SomeLabelled (cond b (Some bs) o)
one_labelled true bs o h k = h
one_labelled false bs o h k = k

found_labelled : (E : Environment) (n : List ℕ) → IsLabelledEnvironment E → SomeLabelled (bodies E n)
found_labelled [] n h = tt
found_labelled (d ∷ E) n h = one_labelled (bytes_eq n d.0) d.1 (bodies E n) h.0 (found_labelled E n h.1)

module _ (E : Environment) (labelled : IsLabelledEnvironment E) where
  asks_labels : (r : Rule) → IsEarlierRule r → AsksLabels (constraint_of E r)
  asks_labels (definition n) h = by (bodies E n)
    where
      by : (o : Option (List Expression)) → AsksLabels (all_bodies o)
      by None = tt
      by (Some bs) = tt
  asks_labels (node (cue.struct ds o)) h = declarations_labelled ds h
  asks_labels (node _) h = tt

  here_labelled : (r : Rule) → IsEarlierRule r → Each IsEarlierRule (here_parts (constraint_of E r))
  here_labelled (definition n) h = by (bodies E n) (found_labelled E n labelled)
    where
      by : (o : Option (List Expression)) → SomeLabelled o → Each IsEarlierRule (here_parts (all_bodies o))
      by None k = tt
      by (Some bs) k = bodies_labelled bs k
  here_labelled (node (cue.reference n)) h = (tt, tt)
  here_labelled (node (cue.conjunction es)) h = operands_labelled es h
  here_labelled (node (cue.disjunction es)) h = operands_labelled es h
  here_labelled (node _) h = tt

  inner_labelled : (r : Rule) → IsEarlierRule r → Each IsLabelled (inner_parts (constraint_of E r))
  inner_labelled (definition n) h = by (bodies E n)
    where
      by : (o : Option (List Expression)) → Each IsLabelled (inner_parts (all_bodies o))
      by None = tt
      by (Some bs) = tt
  inner_labelled (node (cue.struct ds o)) h = values_labelled ds h
  inner_labelled (node (cue.list es r)) h = elements_labelled es r h.0 h.1
  inner_labelled (node _) h = tt

  -- an instance relation is one by the older reading
  pub still_instance : (I : Rule → Document → Bool) → IsInstance E I → IsInstanceEarlier E I
  still_instance I is r x h = is r x ∙ satisfied_by_labels (λ part. I part x) (λ y e. I (node e) y) (constraint_of E r) (opened x) (asks_labels r h)

  -- and what was one agrees with it, on all that it speaks of
  module _ (guarded : IsGuarded E) (I J : Rule → Document → Bool) (is : IsInstance E I) (was : IsInstanceEarlier E J) where
    abbrev Agree : Rule → Document → Type 0
    Agree r x = IsEarlierRule r → I r x ≡ J r x

    agree_here : (x : Document) (rs : List Rule) → Each (λ p. Agree p x) rs → Each IsEarlierRule rs → Each (λ p. I p x ≡ J p x) rs
    agree_here x [] h k = tt
    agree_here x (r ∷ rs) h k = (h.0 k.0, agree_here x rs h.1 k.1)

    agree_inside : (y : Document) (es : List Expression) → ((p : Rule) → Agree p y) → Each IsLabelled es → Each (λ e. I (node e) y ≡ J (node e) y) es
    agree_inside y [] h k = tt
    agree_inside y (e ∷ es) h k = (h (node e) k.0, agree_inside y es h k.1)

    step : (r : Rule) (x : Document) → Each (λ p. Agree p x) (here_parts (constraint_of E r)) → Each (λ y. (p : Rule) → Agree p y) (children x) → Agree r x
    step r x here kids h =
        let parts = inner_parts (constraint_of E r) in
        let now : I r x ≡ is_satisfied (λ p. J p x) (λ y e. J (node e) y) (constraint_of E r) (opened x) =
        is r x
        ∙ satisfied_same (λ p. I p x) (λ p. J p x) (λ y e. I (node e) y) (λ y e. J (node e) y) (constraint_of E r) (opened x)
        (agree_here x (here_parts (constraint_of E r)) here (here_labelled r h))
        (each_within (λ y. Each (λ e. I (node e) y ≡ J (node e) y) parts) x (each_map _ _ (λ y k. agree_inside y parts k (inner_labelled r h)) (children x) kids)) in
        now ∙ satisfied_by_labels (λ part. J part x) (λ y e. J (node e) y) (constraint_of E r) (opened x) (asks_labels r h) ∙ sym (was r x h)

    pub same_instances : (r : Rule) (x : Document) → IsEarlierRule r → I r x ≡ J r x
    same_instances = guarded-induction E guarded Agree step

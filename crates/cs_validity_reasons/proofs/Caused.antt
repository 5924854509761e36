-- Causes of refusals by schemas and of documents that are named in another way, and without what asserts nothing.
use Rattle.std.proofs.Common.{◌≡◌, ◌≤◌, ℕ, Bool, false, ◌||◌, List, [], ◌∷◌, Some, None, map, Contains, refl, sym, ap, ap₂, ◌∙◌, subst, arith}
use Rattle.std.specs.Prelude.{slice_get}
use Rattle.std.specs.List.{list_any}
use Rattle.std.specs.Str.{bytes_eq}
use Rattle.std.proofs.Math.Bool.{and-true}
use Rattle.std.proofs.lemmas.Option.{none-some}
use Rattle.cs_document.specs.Document.{Document, Entry, under}
use Rattle.cs_document.specs.Opened.{Opened, a_list, an_object}
use Rattle.cs_document.specs.Inside.{map_entry, map_opened}
use Rattle.cs_profile.specs.Constraint.{Assertion, nothing, valid_by, has_kind, equals, is_among, at_least, at_most, above, below, has_keys, at_keys, at_other_keys, in_front, behind, at_least_long, at_most_long, valid_by_all, valid_by_any, not_valid_by, Constraint, always, never, conjunction}
use Rattle.cs_profile.specs.Validity.{holds}
use Rattle.cs_profile.specs.declared.keyword.Keyword.{Keyword}
use Rattle.cs_profile.specs.declared.keyword.Keyword.TheVariants as keyword
use Rattle.cs_validate.specs.Numbering.{map_assertion, map_constraint, asserted, said}
use Rattle.cs_validity_reasons.specs.Causes.{Cause, reference, part, alternative, property, additional, prefix, items, never_valid, no_alternative, missing, by_keyword, keyword_of, IsDenied, of_keyword, of_reference, of_undefined, of_part, of_alternative, of_none, of_missing, of_property, of_additional, of_prefix, of_items, IsCause, of_never, of_claim}
use Rattle.cs_validity_reasons.specs.Why.{map_cause}
use Rattle.cs_validity_reasons.proofs.Contained.{at_place, got_map, got_map_back, contains_map, contains_map_back, found_map, found_map_back, missed_map, missed_map_back, in_each, in_each_back, in_single}
use Rattle.cs_validate.proofs.Satisfied.{named, at_documents}

any_of_map : {X Y : Type 0} (p : Y → Bool) (f : X → Y) (xs : List X) → list_any p (map f xs) ≡ list_any (λ x. p (f x)) xs
any_of_map p f [] = refl
any_of_map p f (x ∷ xs) = ap (λ b. p (f x) || b) (any_of_map p f xs)

-- ---- what asserts nothing

module _ {A S : Type 0} (here : S → Bool) (inside : A → S → Bool) (d : Document) (x : Opened A) where
  asserts : (a : Assertion S S) {c : Cause A S S} → IsDenied here inside d x a c → Contains (asserted a) a
  asserts nothing (of_keyword e h) = absurd (none-some _ e)
  asserts a h = at_place (a ∷ []) a 0 refl

  only_asserted : (a b : Assertion S S) → Contains (asserted a) b → a ≡ b
  only_asserted nothing b m = let l = m.1 in absurd (omega (arith, l))
  only_asserted a b m = in_single a b m

  pub cause_said : {a : Constraint S S} {c : Cause A S S} → IsCause here inside d x a c → IsCause here inside d x (said a) c
  cause_said of_never = of_never
  cause_said (of_claim {claims} {a} m h) = of_claim (in_each asserted a claims a m (asserts a h)) h

  pub said_cause : (a : Constraint S S) {c : Cause A S S} → IsCause here inside d x (said a) c → IsCause here inside d x a c
  said_cause always h = elim h [ ]
  said_cause never of_never = of_never
  said_cause (conjunction claims) (of_claim {a = a} m h) =
      let p = in_each_back asserted a claims m in of_claim (subst (Contains claims) (only_asserted p.0 a p.2) p.1) h

-- ---- what is named in another way

module _ {A B S T : Type 0} (f : A → B) (g : S → T) (here : T → Bool) (inside : B → T → Bool) (d : Document) where
  -- the verdicts on what is named
  abbrev there : S → Bool
  there s = here (g s)

  abbrev within : A → S → Bool
  within y s = inside (f y) (g s)

  claim_same : (a : Assertion S S) (x : Opened A) → holds here inside (map_assertion g g a) d (map_opened f x) ≡ holds there within a d x
  claim_same a x =
      sym (and-true (holds here inside (map_assertion g g a) d (map_opened f x)))
      ∙ named g g here inside (conjunction (a ∷ [])) d (map_opened f x)
      ∙ at_documents f there (λ y s. inside y (g s)) (conjunction (a ∷ [])) d x
      ∙ and-true (holds there within a d x)

  keyword_same : (a : Assertion S S) → keyword_of (map_assertion g g a) ≡ keyword_of a
  keyword_same nothing = refl
  keyword_same _ = refl

  pub denied_there : {x : Opened A} {a : Assertion S S} {c : Cause A S S} → IsDenied there within d x a c → IsDenied here inside d (map_opened f x) (map_assertion g g a) (map_cause f g c)
  denied_there {x = x} (of_keyword {a} e h) = of_keyword (keyword_same a ∙ e) (claim_same a x ∙ h)
  denied_there (of_reference h) = of_reference h
  denied_there of_undefined = of_undefined
  denied_there (of_part {ss} {k} {s} e h) = of_part (got_map g ss k s e) h
  denied_there (of_alternative {ss} {k} {s} h e) = of_alternative (any_of_map here g ss ∙ h) (got_map g ss k s e)
  denied_there of_none = of_none
  denied_there (of_missing {k = k} {ms = ms} o m e) = of_missing (ap (map_opened f) o) m (missed_map f k ms e)
  denied_there (of_property {ps} {k} {s} {y} {ms} o m e h) = of_property (ap (map_opened f) o) (contains_map (map_entry g) ps (k, s) m) (found_map f k ms y e) h
  denied_there (of_additional {k = k} {y = y} {ms = ms} o m e h) = of_additional (ap (map_opened f) o) (contains_map (map_entry f) ms (k, y) m) e h
  denied_there (of_prefix {ss} {k} {s} {y} {ys} o e l h) = of_prefix (ap (map_opened f) o) (got_map g ss k s e) (got_map f ys k y l) h
  denied_there (of_items {k = k} {y = y} {ys = ys} o n l h) = of_items (ap (map_opened f) o) n (got_map f ys k y l) h

  pub cause_there : {x : Opened A} {a : Constraint S S} {c : Cause A S S} → IsCause there within d x a c → IsCause here inside d (map_opened f x) (map_constraint g g a) (map_cause f g c)
  cause_there of_never = of_never
  cause_there (of_claim {claims} {a} m h) = of_claim (contains_map (map_assertion g g) claims a m) (denied_there h)

  -- ---- and back

  object_back : (x : Opened A) (ms : List (Entry B)) → map_opened f x ≡ an_object ms → (es : List (Entry A)) × (x ≡ an_object es) × (map (map_entry f) es ≡ ms)
  object_back (an_object es) ms e = (es, refl, cc)
  object_back _ ms e = cc

  list_back : (x : Opened A) (ys : List B) → map_opened f x ≡ a_list ys → (zs : List A) × (x ≡ a_list zs) × (map f zs ≡ ys)
  list_back (a_list zs) ys e = (zs, refl, cc)
  list_back _ ys e = cc

  -- a cause that is one of these, named in the other way
  abbrev IsNamed : Opened A → Assertion S S → Cause B T T → Type 0
  IsNamed x a c = (b : Cause A S S) × IsDenied there within d x a b × (map_cause f g b ≡ c)

  word_back : (x : Opened A) (a : Assertion S S) (w : Keyword) → keyword_of (map_assertion g g a) ≡ Some w → holds here inside (map_assertion g g a) d (map_opened f x) ≡ false → IsNamed x a (by_keyword w)
  word_back x a w e h = (by_keyword w, of_keyword (sym (keyword_same a) ∙ e) (sym (claim_same a x) ∙ h), refl)

  property_back : (x : Opened A) (ps : List (Entry S)) (k : List ℕ) (s : T) (y : B) (ms : List (Entry B))
      → map_opened f x ≡ an_object ms → Contains (map (map_entry g) ps) (k, s) → under k ms ≡ Some y → inside y s ≡ false → IsNamed x (at_keys ps) (property k y s)
  property_back x ps k s y ms o m e h =
      let q = object_back x ms o in
      let z = found_map_back f k q.0 y (ap (under k) q.2 ∙ e) in
      let p = contains_map_back (map_entry g) ps (k, s) m in
      let named : g p.0.1 ≡ s = ap (λ (r : Entry T). r.1) p.2 in
      let keyed : p.0.0 ≡ k = ap (λ (r : Entry T). r.0) p.2 in
      (property k z.0 p.0.1, of_property q.1 (subst (λ l. Contains ps (l, p.0.1)) keyed p.1) z.1 (ap₂ inside z.2 named ∙ h), ap₂ (property k) z.2 named)

  additional_back : (x : Opened A) (ks : List (List ℕ)) (k : List ℕ) (s : S) (y : B) (ms : List (Entry B))
      → map_opened f x ≡ an_object ms → Contains ms (k, y) → list_any (bytes_eq k) ks ≡ false → inside y (g s) ≡ false → IsNamed x (at_other_keys ks s) (additional k y (g s))
  additional_back x ks k s y ms o m e h =
      let q = object_back x ms o in
      let p = contains_map_back (map_entry f) q.0 (k, y) (subst (λ es. Contains es (k, y)) (sym q.2) m) in
      let valued : f p.0.1 ≡ y = ap (λ (r : Entry B). r.1) p.2 in
      let keyed : p.0.0 ≡ k = ap (λ (r : Entry B). r.0) p.2 in
      (additional k p.0.1 s, of_additional q.1 (subst (λ l. Contains q.0 (l, p.0.1)) keyed p.1) e (ap (λ z. inside z (g s)) valued ∙ h), ap (λ z. additional k z (g s)) valued)

  prefix_back : (x : Opened A) (ss : List S) (k : ℕ) (s : T) (y : B) (ys : List B)
      → map_opened f x ≡ a_list ys → slice_get (map g ss) k ≡ Some s → slice_get ys k ≡ Some y → inside y s ≡ false → IsNamed x (in_front ss) (prefix k y s)
  prefix_back x ss k s y ys o e l h =
      let q = list_back x ys o in
      let p = got_map_back g ss k s e in
      let z = got_map_back f q.0 k y (ap (λ zs. slice_get zs k) q.2 ∙ l) in
      (prefix k z.0 p.0, of_prefix q.1 p.1 z.1 (ap₂ inside z.2 p.2 ∙ h), ap₂ (prefix k) z.2 p.2)

  items_back : (x : Opened A) (n k : ℕ) (s : S) (y : B) (ys : List B)
      → map_opened f x ≡ a_list ys → n ≤ k → slice_get ys k ≡ Some y → inside y (g s) ≡ false → IsNamed x (behind n s) (items k y (g s))
  items_back x n k s y ys o m l h =
      let q = list_back x ys o in
      let z = got_map_back f q.0 k y (ap (λ zs. slice_get zs k) q.2 ∙ l) in
      (items k z.0 s, of_items q.1 m z.1 (ap (λ w. inside w (g s)) z.2 ∙ h), ap (λ w. items k w (g s)) z.2)

  missing_back : (x : Opened A) (ks : List (List ℕ)) (k : List ℕ) (ms : List (Entry B)) → map_opened f x ≡ an_object ms → Contains ks k → under k ms ≡ None → IsNamed x (has_keys ks) (missing k)
  missing_back x ks k ms o m e =
      let q = object_back x ms o in (missing k, of_missing q.1 m (missed_map_back f k q.0 (ap (under k) q.2 ∙ e)), refl)

  part_back : (x : Opened A) (ss : List S) (k : ℕ) (s : T) → slice_get (map g ss) k ≡ Some s → here s ≡ false → IsNamed x (valid_by_all ss) (part k s)
  part_back x ss k s e h = let p = got_map_back g ss k s e in (part k p.0, of_part p.1 (ap here p.2 ∙ h), ap (part k) p.2)

  alternative_back : (x : Opened A) (ss : List S) (k : ℕ) (s : T) → list_any here (map g ss) ≡ false → slice_get (map g ss) k ≡ Some s → IsNamed x (valid_by_any ss) (alternative k s)
  alternative_back x ss k s h e =
      let p = got_map_back g ss k s e in (alternative k p.0, of_alternative (sym (any_of_map here g ss) ∙ h) p.1, ap (alternative k) p.2)

  pub denied_back : (x : Opened A) (a : Assertion S S) {c : Cause B T T} → IsDenied here inside d (map_opened f x) (map_assertion g g a) c → IsNamed x a c
  denied_back x nothing (of_keyword {w = w} e h) = word_back x nothing w e h
  denied_back x (valid_by (Some s)) (of_reference h) = (reference s, of_reference h, refl)
  denied_back x (valid_by (Some s)) (of_keyword {w = w} e h) = word_back x (valid_by (Some s)) w e h
  denied_back x (valid_by None) of_undefined = (by_keyword keyword.Ref, of_undefined, refl)
  denied_back x (valid_by None) (of_keyword {w = w} e h) = word_back x (valid_by None) w e h
  denied_back x (has_kind k) (of_keyword {w = w} e h) = word_back x (has_kind k) w e h
  denied_back x (equals v) (of_keyword {w = w} e h) = word_back x (equals v) w e h
  denied_back x (is_among vs) (of_keyword {w = w} e h) = word_back x (is_among vs) w e h
  denied_back x (at_least z) (of_keyword {w = w} e h) = word_back x (at_least z) w e h
  denied_back x (at_most z) (of_keyword {w = w} e h) = word_back x (at_most z) w e h
  denied_back x (above z) (of_keyword {w = w} e h) = word_back x (above z) w e h
  denied_back x (below z) (of_keyword {w = w} e h) = word_back x (below z) w e h
  denied_back x (at_most_long k n) (of_keyword {w = w} e h) = word_back x (at_most_long k n) w e h
  denied_back x (at_least_long k n) (of_keyword {w = w} e h) = word_back x (at_least_long k n) w e h
  denied_back x (not_valid_by s) (of_keyword {w = w} e h) = word_back x (not_valid_by s) w e h
  denied_back x (has_keys ks) (of_keyword {w = w} e h) = word_back x (has_keys ks) w e h
  denied_back x (has_keys ks) (of_missing {k = k} {ms = ms} o m e) = missing_back x ks k ms o m e
  denied_back x (at_keys ps) (of_keyword {w = w} e h) = word_back x (at_keys ps) w e h
  denied_back x (at_keys ps) (of_property {k = k} {s = s} {y = y} {ms = ms} o m e h) = property_back x ps k s y ms o m e h
  denied_back x (at_other_keys ks s) (of_keyword {w = w} e h) = word_back x (at_other_keys ks s) w e h
  denied_back x (at_other_keys ks s) (of_additional {k = k} {y = y} {ms = ms} o m e h) = additional_back x ks k s y ms o m e h
  denied_back x (in_front ss) (of_keyword {w = w} e h) = word_back x (in_front ss) w e h
  denied_back x (in_front ss) (of_prefix {k = k} {s = s} {y = y} {ys = ys} o e l h) = prefix_back x ss k s y ys o e l h
  denied_back x (behind n s) (of_keyword {w = w} e h) = word_back x (behind n s) w e h
  denied_back x (behind n s) (of_items {k = k} {y = y} {ys = ys} o m l h) = items_back x n k s y ys o m l h
  denied_back x (valid_by_all ss) (of_keyword {w = w} e h) = word_back x (valid_by_all ss) w e h
  denied_back x (valid_by_all ss) (of_part {k = k} {s = s} e h) = part_back x ss k s e h
  denied_back x (valid_by_any []) (of_keyword {w = w} e h) = word_back x (valid_by_any []) w e h
  denied_back x (valid_by_any []) (of_alternative {k = k} {s = s} h e) = alternative_back x [] k s h e
  denied_back x (valid_by_any []) of_none = (no_alternative, of_none, refl)
  denied_back x (valid_by_any (s ∷ ss)) (of_keyword {w = w} e h) = word_back x (valid_by_any (s ∷ ss)) w e h
  denied_back x (valid_by_any (s ∷ ss)) (of_alternative {k = k} {s = t} h e) = alternative_back x (s ∷ ss) k t h e

  pub cause_back : (x : Opened A) (a : Constraint S S) {c : Cause B T T} → IsCause here inside d (map_opened f x) (map_constraint g g a) c → (b : Cause A S S) × IsCause there within d x a b × (map_cause f g b ≡ c)
  cause_back x always h = elim h [ ]
  cause_back x never of_never = (never_valid, of_never, refl)
  cause_back x (conjunction claims) (of_claim {a = a} {c = c} m h) =
      let p = contains_map_back (map_assertion g g) claims a m in
      let q = denied_back x p.0 (subst (λ b. IsDenied here inside d (map_opened f x) b c) (sym p.2) h) in
      (q.0, of_claim p.1 q.1, q.2)

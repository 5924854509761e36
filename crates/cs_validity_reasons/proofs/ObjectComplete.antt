-- Every cause of a refusal by the keywords of an object is told.
use Rattle.std.proofs.Common.{◌≡◌, ℕ, zero, suc, ◌+◌, ◌≤◌, ℤ, pos, negsuc, Bool, true, false, not, ◌||◌, List, [], ◌∷◌, ◌++◌, Option, Some, None, map, option_map, length, drop, zip, slice_index, Contains, refl, sym, ap, ◌∙◌, subst, arith}
use Rattle.std.specs.Prelude.{option_to_list, slice_get, is_some, nat_le, int_le, int_lt, String}
use Rattle.std.specs.Option.{option_map_or}
use Rattle.std.specs.List.{flat_map, list_any}
use Rattle.std.specs.Str.{bytes_eq}
use Rattle.std.specs.declared.alloc.Global.{Global}
use Rattle.std.proofs.lemmas.List.Elements.{Contains-append_left, Contains-append_right}
use Rattle.std.proofs.lemmas.Option.{same_Some}
use Rattle.cs_document.specs.Document.{Document, Entry, under, document_eq}
use Rattle.cs_document.specs.Opened.{Opened, an_integer, a_text, a_list, an_object}
use Rattle.cs_document.specs.Sizes.{Counted, Characters, Elements, Keys, text_length, size_of}
use Rattle.cs_document.specs.Inside.{map_entry}
use Rattle.cs_document.specs.View.{doc_view}
use Rattle.cs_flat.specs.Listed.{values}
use Rattle.cs_flat.specs.Nodes.{node_at}
use Rattle.cs_table.specs.Judged.{AllVerdicts}
use Rattle.cs_profile.specs.Constraint.{Assertion, nothing, valid_by, has_kind, equals, is_among, at_least, at_most, above, below, has_keys, at_keys, at_other_keys, in_front, behind, at_least_long, at_most_long, valid_by_all, valid_by_any, not_valid_by}
use Rattle.cs_profile.specs.Keywords.{all_keywords}
use Rattle.cs_profile.specs.Numbered.{names_in}
use Rattle.cs_profile.specs.Validity.{is_of_kind, if_number, if_there, holds}
use Rattle.cs_profile.specs.declared.keyword.Keyword.{Keyword as Word}
use Rattle.cs_profile.specs.declared.keyword.Keyword.TheVariants as keyword
use Rattle.cs_validate.specs.Asked.{asks_type, asks_const, asks_enum, if_count, is_at_most_long, is_at_least_long, places_named}
use Rattle.cs_validity_reasons.specs.CauseLists.{unless, all_unless, each_from, any_told, upper_told, lower_told, integer_told, length_told, reference_told, part_told, alternative_told, alternatives_told, negation_told, here_told, missing_told, front_told, rest_told, value_told, named_told, other_told, fronts_told, rests_told, list_told, all_named_told, others_told, map_told, kind_told, object_told}
use Rattle.cs_validity_reasons.specs.Causes as cause
use Rattle.cs_validity_reasons.specs.Causes.{most_keyword, least_keyword, keyword_of, IsDenied, of_keyword, of_reference, of_undefined, of_part, of_alternative, of_none, of_missing, of_property, of_additional, of_prefix, of_items, IsCause, of_claim}
use Rattle.cs_validate.specs.Numbering.{map_assertion}
use Rattle.cs_validity_reasons.specs.NumberedCauses.{NumberedCause}
use Rattle.cs_validity_reasons.specs.PlacedCauses.{members_in, required_in, named_in, IsKeyed, StaysAt, IsPlacedCause}
use Rattle.cs_validate.specs.Steps.{kind_of, unless_empty, of_count, places_from, items_place, prefix_place, properties_place, claim_of, claims_of, numbered}
use Rattle.cs_validate.specs.declared.rules.Rule.{Rule as Coded}
use Rattle.cs_validate.specs.declared.rules.Rule.TheVariants as rule
use Rattle.cs_validate.specs.declared.rules.Conjunction.{Conjunction}
use Rattle.cs_validity_reasons.specs.Led.{PlacedCause}
use Rattle.cs_validity_reasons.specs.declared.cause.KeyedCause.TheVariants.{Reference, Part, Alternative, Property, Additional, Prefix, Items, Never, Missing, Keyword, NoAlternative}
use Rattle.cs_validity_reasons.proofs.Contained.{at_place, got_map_back, contains_map_back, in_each_back, in_single}

-- ---- lists

told_from : {X : Type 0} (g : ℕ → X → List PlacedCause) (k j : ℕ) (xs : List X) (x : X) (c : PlacedCause) → slice_get xs j ≡ Some x → Contains (g (k + j) x) c → Contains (each_from g k xs) c
told_from g k j [] x c e h = cc
told_from g k zero (z ∷ zs) x c e h =
    let same : z ≡ x = same_Some z x e in Contains-append_left (g k z) (each_from g (suc k) zs) c (rw same (subst (λ n. Contains (g n x) c) (omega arith) h))
told_from g k (suc j) (z ∷ zs) x c e h = Contains-append_right (g k z) (each_from g (suc k) zs) c (told_from g (suc k) j zs x c e (subst (λ n. Contains (g n x) c) (omega arith) h))

told_at : {X : Type 0} (g : ℕ → X → List PlacedCause) (j : ℕ) (xs : List X) (x : X) (c : PlacedCause) → slice_get xs j ≡ Some x → Contains (g j x) c → Contains (each_from g 0 xs) c
told_at g j xs x c e h = told_from g 0 j xs x c e (subst (λ n. Contains (g n x) c) (omega arith) h)

told_unless : (b : Bool) (p : PlacedCause) → b ≡ false → Contains (unless b p) p
told_unless true p e = cc
told_unless false p e = at_place (p ∷ []) p 0 refl

told_all : (b : Bool) (cs : List PlacedCause) (p : PlacedCause) → b ≡ false → Contains cs p → Contains (all_unless b cs) p
told_all true cs p e h = cc
told_all false cs p e h = h

told_there : {X : Type 0} (q : X → Bool) (o : Option X) (y : X) (p : PlacedCause) → o ≡ Some y → q y ≡ false → Contains (unless (if_there q o) p) p
told_there q o y p e h = told_unless (if_there q o) p (ap (λ r. if_there q r) e ∙ h)

told_each : {X : Type 0} (g : X → List PlacedCause) (o : Option X) (y : X) (p : PlacedCause) → o ≡ Some y → Contains (g y) p → Contains (option_map_or g o []) p
told_each g o y p e h = subst (λ r. Contains (option_map_or g r []) p) (sym e) h

zipped : (ks ys : List ℕ) (k a b : ℕ) → slice_get ks k ≡ Some a → slice_get ys k ≡ Some b → slice_get (zip ks ys) k ≡ Some (a, b)
zipped [] ys k a b e h = cc
zipped (u ∷ ks) [] k a b e h = cc
zipped (u ∷ ks) (v ∷ ys) zero a b e h = let p = same_Some u a e in let q = same_Some v b h in cc
zipped (u ∷ ks) (v ∷ ys) (suc k) a b e h = zipped ks ys k a b e h

dropped : (n k : ℕ) (ys : List ℕ) (y : ℕ) → n ≤ k → slice_get ys k ≡ Some y → (j : ℕ) × (k ≡ n + j) × (slice_get (drop n ys) j ≡ Some y)
dropped zero k ys y l e = (k, omega arith, e)
dropped (suc n) k [] y l e = cc
dropped (suc n) zero (z ∷ ys) y l e = absurd (omega (arith, l))
dropped (suc n) (suc k) (z ∷ ys) y l e = let r = dropped n k ys y (omega (arith, l)) e in let q = r.1 in (r.0, omega (arith, q), r.2)

any_same : (p : ℕ → Bool) (qs : List ℕ) → list_any p (map (λ k. k) qs) ≡ list_any p qs
any_same p [] = refl
any_same p (q ∷ qs) = ap (λ b. p q || b) (any_same p qs)

-- ---- values that are looked into

number_there : (q : ℤ → Bool) (x : Opened ℕ) → if_number q x ≡ false → (z : ℤ) × (x ≡ an_integer z) × (q z ≡ false)
number_there q (an_integer z) e = (z, refl, e)
number_there q _ e = cc

length_there : (q : ℕ → Bool) (o : Option ℕ) → if_there q o ≡ false → (n : ℕ) × (o ≡ Some n) × (q n ≡ false)
length_there q (Some n) e = (n, refl, e)
length_there q None e = cc

-- ---- the cause without texts, by the one that it names

abbrev IsNamedBy : ℕ → List (Entry ℕ) → List (List ℕ) → List (Entry ℕ) → PlacedCause → NumberedCause → Type 0
IsNamedBy i ms ks ps p (cause.reference q) = p ≡ Reference i q
IsNamedBy i ms ks ps p (cause.part k q) = p ≡ Part i q k
IsNamedBy i ms ks ps p (cause.alternative k q) = p ≡ Alternative i q k
IsNamedBy i ms ks ps p (cause.property k y q) = (place : ℕ) × (slice_get ps place ≡ Some (k, q)) × (p ≡ Property place y q)
IsNamedBy i ms ks ps p (cause.additional k y q) = (place : ℕ) × (slice_get ms place ≡ Some (k, y)) × (p ≡ Additional place y q)
IsNamedBy i ms ks ps p (cause.prefix k y q) = p ≡ Prefix k y q
IsNamedBy i ms ks ps p (cause.items k y q) = p ≡ Items k y q
IsNamedBy i ms ks ps p cause.never_valid = p ≡ Never
IsNamedBy i ms ks ps p cause.no_alternative = p ≡ NoAlternative
IsNamedBy i ms ks ps p (cause.missing k) = (place : ℕ) × (slice_get ks place ≡ Some k) × (p ≡ Missing place)
IsNamedBy i ms ks ps p (cause.by_keyword w) = p ≡ Keyword w

module _ (i : ℕ) (ms : List (Entry ℕ)) (ks : List (List ℕ)) (ps : List (Entry ℕ)) where
  abbrev Names : PlacedCause → NumberedCause → Type 0
  Names p n = IsNamedBy i ms ks ps p n

  named_by : (p : PlacedCause) (n : NumberedCause) → StaysAt i p → IsKeyed ms ks ps p n → Names p n
  named_by (Reference item q) n s k = subst (Names (Reference item q)) (sym k) (ap (λ j. Reference j q) s)
  named_by (Part item q place) n s k = subst (Names (Part item q place)) (sym k) (ap (λ j. Part j q place) s)
  named_by (Alternative item q place) n s k = subst (Names (Alternative item q place)) (sym k) (ap (λ j. Alternative j q place) s)
  named_by (Property place item q) n s k = subst (Names (Property place item q)) (sym k.2) (place, k.1, refl)
  named_by (Additional place item q) n s k = subst (Names (Additional place item q)) (sym k.2) (place, k.1, refl)
  named_by (Prefix place item q) n s k = subst (Names (Prefix place item q)) (sym k) refl
  named_by (Items place item q) n s k = subst (Names (Items place item q)) (sym k) refl
  named_by Never n s k = subst (Names Never) (sym k) refl
  named_by (Missing place) n s k = subst (Names (Missing place)) (sym k.2) (place, k.1, refl)
  named_by (Keyword w) n s k = subst (Names (Keyword w)) (sym k) refl
  named_by NoAlternative n s k = subst (Names NoAlternative) (sym k) refl

-- ---- assertions that a value fails by itself

module _ (here : ℕ → Bool) (inside : ℕ → ℕ → Bool) (d : Document) (x : Opened ℕ) where
  by_word : {a : Assertion ℕ ℕ} {n : NumberedCause} (w : Word) → keyword_of a ≡ Some w → IsDenied here inside d x a n → (n ≡ cause.by_keyword w) × (holds here inside a d x ≡ false)
  by_word w k (of_keyword {w = v} e h) = (ap (λ u. cause.by_keyword u) (same_Some v w (sym e ∙ k)), h)
  by_word w k (of_reference h) = cc
  by_word w k of_undefined = cc
  by_word w k (of_part e h) = cc
  by_word w k (of_alternative h e) = cc
  by_word w k of_none = cc
  by_word w k (of_missing o m e) = cc
  by_word w k (of_property o m e h) = cc
  by_word w k (of_additional o m e h) = cc
  by_word w k (of_prefix o e l h) = cc
  by_word w k (of_items o m l h) = cc

  never_denied : {n : NumberedCause} → IsDenied here inside d x nothing n → ⊥
  never_denied (of_keyword e h) = cc

-- ---- keyword by keyword

module _ (f : AllVerdicts) (inner : List ℕ) (i : ℕ) (d : Document) (c : Conjunction) (x : Opened ℕ) where
  abbrev named_here : List (Entry ℕ)
  named_here = map (map_entry (slice_index inner)) (places_named (properties_place c) c.keywords.now.properties.entries)

  abbrev IsOf : PlacedCause → NumberedCause → Type 0
  IsOf p n = IsNamedBy i (members_in x) c.required named_here p n

  abbrev inner_of : Assertion ℕ ℕ → Assertion ℕ ℕ
  inner_of a = map_assertion (λ k. k) (slice_index inner) a

  abbrev Denies : Assertion ℕ ℕ → NumberedCause → Type 0
  Denies a n = IsDenied (f i) f d x a n

  -- each cause of an assertion is among these
  abbrev AreAll : List PlacedCause → Assertion ℕ ℕ → Type 0
  AreAll cs a = (n : NumberedCause) (p : PlacedCause) → Denies (inner_of a) n → IsOf p n → Contains cs p

  abbrev AreAllIf : List PlacedCause → Option (Assertion ℕ ℕ) → Type 0
  AreAllIf cs None = Unit {0}
  AreAllIf cs (Some a) = AreAll cs a

  if_claimed : {X : Type 0} (cs : List PlacedCause) (g : X → Assertion ℕ ℕ) (o : Option X) → ((y : X) → o ≡ Some y → AreAll cs (g y)) → AreAllIf cs (option_map g o)
  if_claimed cs g None h = tt
  if_claimed cs g (Some y) h = h y refl

  unless_claimed : {X : Type 0} (cs : List PlacedCause) (g : List X → Assertion ℕ ℕ) (ys : List X) → AreAll cs (g ys) → AreAllIf cs (unless_empty g ys)
  unless_claimed cs g [] h = tt
  unless_claimed cs g (y ∷ ys) h = h

  word_told : (cs : List PlacedCause) (a : Assertion ℕ ℕ) (w : Word) → keyword_of (inner_of a) ≡ Some w → (holds (f i) f (inner_of a) d x ≡ false → Contains cs (Keyword w)) → AreAll cs a
  word_told cs a w k g n p h s =
      let r = by_word (f i) f d x w k h in
      let is : p ≡ Keyword w = subst (IsOf p) r.0 s in
      subst (Contains cs) (sym is) (g r.1)

  -- ---- of a value of any kind

  abbrev by_type : List PlacedCause
  by_type = unless (asks_type c.keywords.now.kind x) (Keyword keyword.Type)

  abbrev by_const : List PlacedCause
  by_const = unless (asks_const c.keywords.now.equal d) (Keyword keyword.Const)

  abbrev by_enum : List PlacedCause
  by_enum = unless (asks_enum c.one_of d) (Keyword keyword.Enum)

  type_told : AreAllIf by_type (claim_of c keyword.Type)
  type_told =
      if_claimed by_type (λ j. has_kind (kind_of j)) c.keywords.now.kind
      (λ j e. word_told by_type (has_kind (kind_of j)) keyword.Type refl (told_there (λ k. is_of_kind (kind_of k) x) c.keywords.now.kind j (Keyword keyword.Type) e))

  const_told : AreAllIf by_const (claim_of c keyword.Const)
  const_told =
      if_claimed by_const (λ v. equals (doc_view v)) c.keywords.now.equal
      (λ v e. word_told by_const (equals (doc_view v)) keyword.Const refl (told_there (λ w. document_eq (doc_view w) d) c.keywords.now.equal v (Keyword keyword.Const) e))

  enum_told : AreAllIf by_enum (claim_of c keyword.Enum)
  enum_told =
      if_claimed by_enum is_among c.one_of
      (λ vs e. word_told by_enum (is_among vs) keyword.Enum refl (told_there (λ ws. list_any (λ v. document_eq v d) ws) c.one_of vs (Keyword keyword.Enum) e))

  -- ---- by the schemas that are asked of the value itself

  one_reference : (s : String Global) (o : Option ℕ) {n : NumberedCause} (p : PlacedCause) → Denies (valid_by (option_map (λ k. k) o)) n → IsOf p n → Contains (reference_told f i (Some s) o) p
  one_reference s None p (of_keyword e h) k = cc
  one_reference s None p of_undefined k = subst (Contains (Keyword keyword.Ref ∷ [])) (sym k) (at_place (Keyword keyword.Ref ∷ []) (Keyword keyword.Ref) 0 refl)
  one_reference s (Some q) p (of_keyword e h) k = cc
  one_reference s (Some q) p (of_reference h) k = subst (Contains (unless (f i q) (Reference i q))) (sym k) (told_unless (f i q) (Reference i q) h)

  abbrev by_reference : List PlacedCause
  by_reference = reference_told f i c.keywords.now.reference c.reference

  abbrev by_parts : List PlacedCause
  by_parts = each_from (part_told f i) 0 c.all_of.items

  abbrev by_alternatives : List PlacedCause
  by_alternatives = alternatives_told f i c.any_of.items

  abbrev by_negation : List PlacedCause
  by_negation = negation_told f i c.negated

  any_reference : AreAllIf by_reference (claim_of c keyword.Ref)
  any_reference =
      if_claimed by_reference (λ n. valid_by c.reference) c.keywords.now.reference
      (λ s e n p h k. subst (λ o. Contains (reference_told f i o c.reference) p) (sym e) (one_reference s c.reference p h k))

  one_part : (qs : List ℕ) {n : NumberedCause} (p : PlacedCause) → Denies (valid_by_all (map (λ k. k) qs)) n → IsOf p n → Contains (each_from (part_told f i) 0 qs) p
  one_part qs p (of_keyword e h) k = cc
  one_part qs p (of_part {k = j} {s = q} e h) k =
      let z = got_map_back (λ k. k) qs j q e in
      subst (Contains (each_from (part_told f i) 0 qs)) (sym k)
      (told_at (part_told f i) j qs q (Part i q j) (subst (λ r. slice_get qs j ≡ Some r) z.2 z.1) (told_unless (f i q) (Part i q j) h))

  any_part : AreAllIf by_parts (claim_of c keyword.AllOf)
  any_part = unless_claimed by_parts valid_by_all c.all_of.items (λ n p h k. one_part c.all_of.items p h k)

  one_alternative : (q : ℕ) (qs : List ℕ) {n : NumberedCause} (p : PlacedCause) → Denies (valid_by_any (map (λ k. k) (q ∷ qs))) n → IsOf p n → Contains (alternatives_told f i (q ∷ qs)) p
  one_alternative q qs p (of_keyword e h) k = cc
  one_alternative q qs p (of_alternative {k = j} {s = r} h e) k =
      let z = got_map_back (λ k. k) (q ∷ qs) j r e in
      subst (Contains (alternatives_told f i (q ∷ qs))) (sym k)
      (told_all (list_any (f i) (q ∷ qs)) (each_from (alternative_told f i) 0 (q ∷ qs)) (Alternative i r j) (sym (any_same (f i) (q ∷ qs)) ∙ h)
      (told_at (alternative_told f i) j (q ∷ qs) r (Alternative i r j) (subst (λ t. slice_get (q ∷ qs) j ≡ Some t) z.2 z.1) (at_place (Alternative i r j ∷ []) (Alternative i r j) 0 refl)))

  each_alternative : (qs : List ℕ) → AreAllIf (alternatives_told f i qs) (unless_empty valid_by_any qs)
  each_alternative [] = tt
  each_alternative (q ∷ qs) = λ n p h k. one_alternative q qs p h k

  any_negation : AreAllIf by_negation (claim_of c keyword.Not)
  any_negation =
      if_claimed by_negation not_valid_by c.negated
      (λ q e. word_told by_negation (not_valid_by q) keyword.Not refl (told_there (λ r. not (f i r)) c.negated q (Keyword keyword.Not) e))

  -- ---- of an integer

  abbrev of_kind : List PlacedCause
  of_kind = kind_told f inner c x

  number_told : (a : Assertion ℕ ℕ) (w : Word) (q : ℤ → Bool) → keyword_of (inner_of a) ≡ Some w → (holds (f i) f (inner_of a) d x ≡ false → if_number q x ≡ false)
      → ((z : ℤ) → q z ≡ false → Contains (integer_told c.keywords.now z) (Keyword w)) → AreAll of_kind a
  number_told a w q k is g =
      word_told of_kind a w k (λ h. let z = number_there q x (is h) in subst (λ y. Contains (kind_told f inner c y) (Keyword w)) (sym z.1) (g z.0 z.2))

  abbrev most : ℤ → List PlacedCause
  most z = unless (if_there (λ l. int_le z l) c.keywords.now.maximum) (Keyword keyword.Maximum)

  abbrev less : ℤ → List PlacedCause
  less z = unless (if_there (λ l. int_lt z l) c.keywords.now.below) (Keyword keyword.ExclusiveMaximum)

  abbrev least : ℤ → List PlacedCause
  least z = unless (if_there (λ l. int_le l z) c.keywords.now.minimum) (Keyword keyword.Minimum)

  abbrev more : ℤ → List PlacedCause
  more z = unless (if_there (λ l. int_lt l z) c.keywords.now.above) (Keyword keyword.ExclusiveMinimum)

  in_upper : (z : ℤ) (p : PlacedCause) → Contains (upper_told c.keywords.now z) p → Contains (integer_told c.keywords.now z) p
  in_upper z p h = Contains-append_left (upper_told c.keywords.now z) (lower_told c.keywords.now z) p h

  in_lower : (z : ℤ) (p : PlacedCause) → Contains (lower_told c.keywords.now z) p → Contains (integer_told c.keywords.now z) p
  in_lower z p h = Contains-append_right (upper_told c.keywords.now z) (lower_told c.keywords.now z) p h

  maximum_told : AreAllIf of_kind (claim_of c keyword.Maximum)
  maximum_told =
      if_claimed of_kind at_most c.keywords.now.maximum
      (λ l e. number_told (at_most l) keyword.Maximum (λ z. int_le z l) refl (λ h. h)
      (λ z h. in_upper z (Keyword keyword.Maximum) (Contains-append_left (most z) (less z) (Keyword keyword.Maximum) (told_there (λ m. int_le z m) c.keywords.now.maximum l (Keyword keyword.Maximum) e h))))

  below_told : AreAllIf of_kind (claim_of c keyword.ExclusiveMaximum)
  below_told =
      if_claimed of_kind below c.keywords.now.below
      (λ l e. number_told (below l) keyword.ExclusiveMaximum (λ z. int_lt z l) refl (λ h. h)
      (λ z h. in_upper z (Keyword keyword.ExclusiveMaximum) (Contains-append_right (most z) (less z) (Keyword keyword.ExclusiveMaximum) (told_there (λ m. int_lt z m) c.keywords.now.below l (Keyword keyword.ExclusiveMaximum) e h))))

  minimum_told : AreAllIf of_kind (claim_of c keyword.Minimum)
  minimum_told =
      if_claimed of_kind at_least c.keywords.now.minimum
      (λ l e. number_told (at_least l) keyword.Minimum (λ z. int_le l z) refl (λ h. h)
      (λ z h. in_lower z (Keyword keyword.Minimum) (Contains-append_left (least z) (more z) (Keyword keyword.Minimum) (told_there (λ m. int_le m z) c.keywords.now.minimum l (Keyword keyword.Minimum) e h))))

  above_told : AreAllIf of_kind (claim_of c keyword.ExclusiveMinimum)
  above_told =
      if_claimed of_kind above c.keywords.now.above
      (λ l e. number_told (above l) keyword.ExclusiveMinimum (λ z. int_lt l z) refl (λ h. h)
      (λ z h. in_lower z (Keyword keyword.ExclusiveMinimum) (Contains-append_right (least z) (more z) (Keyword keyword.ExclusiveMinimum) (told_there (λ m. int_lt m z) c.keywords.now.above l (Keyword keyword.ExclusiveMinimum) e h))))

  -- ---- of a length

  abbrev most_of : Counted → Option ℤ
  most_of Characters = c.keywords.now.max_length
  most_of Elements = c.keywords.now.max_items
  most_of Keys = c.keywords.now.max_properties

  abbrev least_of : Counted → Option ℤ
  least_of Characters = c.keywords.now.min_length
  least_of Elements = c.keywords.now.min_items
  least_of Keys = c.keywords.now.min_properties

  abbrev too_long : Counted → ℕ → List PlacedCause
  too_long k n = unless (is_at_most_long (most_of k) n) (Keyword (most_keyword k))

  abbrev too_short : Counted → ℕ → List PlacedCause
  too_short k n = unless (is_at_least_long (least_of k) n) (Keyword (least_keyword k))

  abbrev by_length : Counted → ℕ → List PlacedCause
  by_length k n = length_told (most_of k, most_keyword k) (least_of k, least_keyword k) n

  in_length : (k : Counted) (y : Opened ℕ) (n : ℕ) (p : PlacedCause) → size_of k y ≡ Some n → Contains (by_length k n) p → Contains (kind_told f inner c y) p
  in_length Characters (a_text s) n p e h = subst (λ m. Contains (by_length Characters m) p) (sym (same_Some (text_length s) n e)) h
  in_length Elements (a_list ys) n p e h =
      Contains-append_left (by_length Elements (length ys)) (fronts_told f inner c ys ++ rests_told f inner c ys) p
      (subst (λ m. Contains (by_length Elements m) p) (sym (same_Some (length ys) n e)) h)
  in_length Keys (an_object ms) n p e h =
      Contains-append_left (by_length Keys (length ms)) (each_from (missing_told ms) 0 c.required ++ (all_named_told f inner c ms ++ others_told f inner c ms)) p
      (subst (λ m. Contains (by_length Keys m) p) (sym (same_Some (length ms) n e)) h)
  in_length _ _ n p e h = cc

  one_most : (k : Counted) (z : ℤ) → most_of k ≡ Some z → AreAll of_kind (of_count (at_most_long k) z)
  one_most k (pos l) e =
      word_told of_kind (at_most_long k l) (most_keyword k) refl
      (λ h. let n = length_there (λ j. nat_le j l) (size_of k x) h in
      in_length k x n.0 (Keyword (most_keyword k)) n.1
      (Contains-append_left (too_long k n.0) (too_short k n.0) (Keyword (most_keyword k)) (told_there (if_count (λ m. nat_le n.0 m)) (most_of k) (pos l) (Keyword (most_keyword k)) e n.2)))
  one_most k (negsuc l) e = λ n p h s. absurd (never_denied (f i) f d x h)

  one_least : (k : Counted) (z : ℤ) → least_of k ≡ Some z → AreAll of_kind (of_count (at_least_long k) z)
  one_least k (pos l) e =
      word_told of_kind (at_least_long k l) (least_keyword k) refl
      (λ h. let n = length_there (λ j. nat_le l j) (size_of k x) h in
      in_length k x n.0 (Keyword (least_keyword k)) n.1
      (Contains-append_right (too_long k n.0) (too_short k n.0) (Keyword (least_keyword k)) (told_there (if_count (λ m. nat_le m n.0)) (least_of k) (pos l) (Keyword (least_keyword k)) e n.2)))
  one_least k (negsuc l) e = λ n p h s. absurd (never_denied (f i) f d x h)

  most_told : (k : Counted) → AreAllIf of_kind (option_map (of_count (at_most_long k)) (most_of k))
  most_told k = if_claimed of_kind (of_count (at_most_long k)) (most_of k) (one_most k)

  least_told : (k : Counted) → AreAllIf of_kind (option_map (of_count (at_least_long k)) (least_of k))
  least_told k = if_claimed of_kind (of_count (at_least_long k)) (least_of k) (one_least k)

  -- ---- of a list

  in_list : (ys : List ℕ) (p : PlacedCause) → x ≡ a_list ys → Contains (list_told f inner c ys) p → Contains of_kind p
  in_list ys p e h = subst (λ y. Contains (kind_told f inner c y) p) (sym e) h

  abbrev front_rules : List ℕ
  front_rules = map (slice_index inner) (places_from (prefix_place c) c.keywords.now.prefix.items)

  one_front : {n : NumberedCause} (p : PlacedCause) → Denies (in_front front_rules) n → IsOf p n → Contains of_kind p
  one_front p (of_keyword e h) k = cc
  one_front p (of_prefix {k = j} {s = q} {y = y} {ys = ys} o e l h) k =
      in_list ys p o
      (Contains-append_right (by_length Elements (length ys)) (fronts_told f inner c ys ++ rests_told f inner c ys) p
      (Contains-append_left (fronts_told f inner c ys) (rests_told f inner c ys) p
      (subst (Contains (fronts_told f inner c ys)) (sym k)
      (told_at (front_told f) j (zip front_rules ys) (q, y) (Prefix j y q) (zipped front_rules ys j q y e l) (told_unless (f y q) (Prefix j y q) h)))))

  any_front : AreAllIf of_kind (claim_of c keyword.PrefixItems)
  any_front = unless_claimed of_kind in_front (places_from (prefix_place c) c.keywords.now.prefix.items) (λ n p h k. one_front p h k)

  abbrev taken : ℕ
  taken = length c.keywords.now.prefix.items

  abbrev rest_rule : ℕ
  rest_rule = slice_index inner (items_place c)

  abbrev other_rule : ℕ
  other_rule = slice_index inner c.first

  one_rest : {n : NumberedCause} (p : PlacedCause) → Denies (behind taken rest_rule) n → IsOf p n → (ys : List ℕ) × (x ≡ a_list ys) × Contains (each_from (rest_told f rest_rule) taken (drop taken ys)) p
  one_rest p (of_keyword e h) k = cc
  one_rest p (of_items {k = j} {y = y} {ys = ys} o m l h) k =
      let z = dropped taken j ys y m l in
      let told : Contains (rest_told f rest_rule j y) p = subst (Contains (rest_told f rest_rule j y)) (sym k) (told_unless (f y rest_rule) (Items j y rest_rule) h) in
      (ys, o, told_from (rest_told f rest_rule) taken z.0 (drop taken ys) y p z.2 (subst (λ t. Contains (rest_told f rest_rule t y) p) z.1 told))

  any_rest : AreAllIf of_kind (claim_of c keyword.Items)
  any_rest =
      if_claimed of_kind (λ s. behind taken (items_place c)) c.keywords.now.rest
      (λ s e n p h k. let z = one_rest p h k in
      in_list z.0 p z.1
      (Contains-append_right (by_length Elements (length z.0)) (fronts_told f inner c z.0 ++ rests_told f inner c z.0) p
      (Contains-append_right (fronts_told f inner c z.0) (rests_told f inner c z.0) p
      (told_each (λ t. each_from (rest_told f rest_rule) taken (drop taken z.0)) c.keywords.now.rest s p e z.2))))

  -- ---- of a map

  in_map : (ms : List (Entry ℕ)) (p : PlacedCause) → x ≡ an_object ms → Contains (map_told f inner c ms) p → Contains of_kind p
  in_map ms p e h = subst (λ y. Contains (kind_told f inner c y) p) (sym e) h

  abbrev all_missing : List (Entry ℕ) → List PlacedCause
  all_missing ms = each_from (missing_told ms) 0 c.required

  abbrev of_keys : List (Entry ℕ) → List PlacedCause
  of_keys ms = all_missing ms ++ (all_named_told f inner c ms ++ others_told f inner c ms)

  in_keys : (ms : List (Entry ℕ)) (p : PlacedCause) → x ≡ an_object ms → Contains (of_keys ms) p → Contains of_kind p
  in_keys ms p e h = in_map ms p e (Contains-append_right (by_length Keys (length ms)) (of_keys ms) p h)

  one_missing : {n : NumberedCause} (p : PlacedCause) → Denies (has_keys c.required) n → IsOf p n → Contains of_kind p
  one_missing p (of_keyword e h) k = cc
  one_missing p (of_missing {k = key} {ms = ms} o m e) k =
      in_keys ms p o
      (Contains-append_left (all_missing ms) (all_named_told f inner c ms ++ others_told f inner c ms) p
      (subst (Contains (all_missing ms)) (sym k.2)
      (told_at (missing_told ms) k.0 c.required key (Missing k.0) k.1 (told_unless (is_some (under key ms)) (Missing k.0) (ap (λ r. is_some r) e)))))

  any_missing : AreAllIf of_kind (claim_of c keyword.Required)
  any_missing = unless_claimed of_kind has_keys c.required (λ n p h k. one_missing p h k)

  one_property : {n : NumberedCause} (p : PlacedCause) → Denies (at_keys named_here) n → IsOf p n → Contains of_kind p
  one_property p (of_keyword e h) k = cc
  one_property p (of_property {k = key} {s = q} {y = y} {ms = ms} o m e h) k =
      let told : Contains (value_told f k.0 q (under key ms)) (Property k.0 y q) = subst (λ r. Contains (value_told f k.0 q r) (Property k.0 y q)) (sym e) (told_unless (f y q) (Property k.0 y q) h) in
      in_keys ms p o
      (Contains-append_right (all_missing ms) (all_named_told f inner c ms ++ others_told f inner c ms) p
      (Contains-append_left (all_named_told f inner c ms) (others_told f inner c ms) p
      (subst (Contains (all_named_told f inner c ms)) (sym k.2) (told_at (named_told f ms) k.0 named_here (key, q) (Property k.0 y q) k.1 told))))

  any_property : AreAllIf of_kind (claim_of c keyword.Properties)
  any_property = unless_claimed of_kind at_keys (places_named (properties_place c) c.keywords.now.properties.entries) (λ n p h k. one_property p h k)

  abbrev declared_names : List (List ℕ)
  declared_names = names_in c.keywords.now.properties.entries

  one_other : {n : NumberedCause} (p : PlacedCause) → Denies (at_other_keys declared_names other_rule) n → IsOf p n
      → (ms : List (Entry ℕ)) × (x ≡ an_object ms) × Contains (each_from (other_told f declared_names other_rule) 0 ms) p
  one_other p (of_keyword e h) k = cc
  one_other p (of_additional {k = key} {y = y} {ms = ms} o m e h) k =
      let at : slice_get ms k.0 ≡ Some (key, y) = ap (λ v. slice_get (members_in v) k.0) (sym o) ∙ k.1 in
      let fails : (list_any (bytes_eq key) declared_names || f y other_rule) ≡ false = ap (λ b. b || f y other_rule) e ∙ h in (
        ms,
        o,
        subst (Contains (each_from (other_told f declared_names other_rule) 0 ms)) (sym k.2)
            (told_at (other_told f declared_names other_rule) k.0 ms (key, y) (Additional k.0 y other_rule) at
            (told_unless (list_any (bytes_eq key) declared_names || f y other_rule) (Additional k.0 y other_rule) fails)),
      )

  any_other : AreAllIf of_kind (claim_of c keyword.AdditionalProperties)
  any_other =
      if_claimed of_kind (λ s. at_other_keys declared_names c.first) c.keywords.now.additional
      (λ s e n p h k. let z = one_other p h k in
      in_keys z.0 p z.1
      (Contains-append_right (all_missing z.0) (all_named_told f inner c z.0 ++ others_told f inner c z.0) p
      (Contains-append_right (all_named_told f inner c z.0) (others_told f inner c z.0) p
      (told_each (λ t. each_from (other_told f declared_names other_rule) 0 z.0) c.keywords.now.additional s p e z.2))))

  -- ---- all of them

  abbrev told_of_all : List PlacedCause
  told_of_all = object_told f inner i d x c

  among : (cs : List PlacedCause) (o : Option (Assertion ℕ ℕ)) → ((p : PlacedCause) → Contains cs p → Contains told_of_all p) → AreAllIf cs o → AreAllIf told_of_all o
  among cs None g h = tt
  among cs (Some a) g h = λ n p k s. g p (h n p k s)

  in_any : (p : PlacedCause) → Contains (any_told c d x) p → Contains told_of_all p
  in_any p h = Contains-append_left (any_told c d x) (here_told f i c ++ of_kind) p h

  in_here : (p : PlacedCause) → Contains (here_told f i c) p → Contains told_of_all p
  in_here p h = Contains-append_right (any_told c d x) (here_told f i c ++ of_kind) p (Contains-append_left (here_told f i c) of_kind p h)

  in_kind : (p : PlacedCause) → Contains of_kind p → Contains told_of_all p
  in_kind p h = Contains-append_right (any_told c d x) (here_told f i c ++ of_kind) p (Contains-append_right (here_told f i c) of_kind p h)

  behind_reference : (p : PlacedCause) → Contains (by_parts ++ (by_alternatives ++ by_negation)) p → Contains told_of_all p
  behind_reference p h = in_here p (Contains-append_right by_reference (by_parts ++ (by_alternatives ++ by_negation)) p h)

  behind_parts : (p : PlacedCause) → Contains (by_alternatives ++ by_negation) p → Contains told_of_all p
  behind_parts p h = behind_reference p (Contains-append_right by_parts (by_alternatives ++ by_negation) p h)

  all_claimed : (w : Word) → AreAllIf told_of_all (claim_of c w)
  all_claimed keyword.Type = among by_type (claim_of c keyword.Type) (λ p h. in_any p (Contains-append_left by_type (by_const ++ by_enum) p h)) type_told
  all_claimed keyword.Const = among by_const (claim_of c keyword.Const) (λ p h. in_any p (Contains-append_right by_type (by_const ++ by_enum) p (Contains-append_left by_const by_enum p h))) const_told
  all_claimed keyword.Enum = among by_enum (claim_of c keyword.Enum) (λ p h. in_any p (Contains-append_right by_type (by_const ++ by_enum) p (Contains-append_right by_const by_enum p h))) enum_told
  all_claimed keyword.Ref = among by_reference (claim_of c keyword.Ref) (λ p h. in_here p (Contains-append_left by_reference (by_parts ++ (by_alternatives ++ by_negation)) p h)) any_reference
  all_claimed keyword.AllOf = among by_parts (claim_of c keyword.AllOf) (λ p h. behind_reference p (Contains-append_left by_parts (by_alternatives ++ by_negation) p h)) any_part
  all_claimed keyword.AnyOf = among by_alternatives (claim_of c keyword.AnyOf) (λ p h. behind_parts p (Contains-append_left by_alternatives by_negation p h)) (each_alternative c.any_of.items)
  all_claimed keyword.Not = among by_negation (claim_of c keyword.Not) (λ p h. behind_parts p (Contains-append_right by_alternatives by_negation p h)) any_negation
  all_claimed keyword.Maximum = among of_kind (claim_of c keyword.Maximum) in_kind maximum_told
  all_claimed keyword.ExclusiveMaximum = among of_kind (claim_of c keyword.ExclusiveMaximum) in_kind below_told
  all_claimed keyword.Minimum = among of_kind (claim_of c keyword.Minimum) in_kind minimum_told
  all_claimed keyword.ExclusiveMinimum = among of_kind (claim_of c keyword.ExclusiveMinimum) in_kind above_told
  all_claimed keyword.MaxLength = among of_kind (claim_of c keyword.MaxLength) in_kind (most_told Characters)
  all_claimed keyword.MinLength = among of_kind (claim_of c keyword.MinLength) in_kind (least_told Characters)
  all_claimed keyword.MaxItems = among of_kind (claim_of c keyword.MaxItems) in_kind (most_told Elements)
  all_claimed keyword.MinItems = among of_kind (claim_of c keyword.MinItems) in_kind (least_told Elements)
  all_claimed keyword.MaxProperties = among of_kind (claim_of c keyword.MaxProperties) in_kind (most_told Keys)
  all_claimed keyword.MinProperties = among of_kind (claim_of c keyword.MinProperties) in_kind (least_told Keys)
  all_claimed keyword.PrefixItems = among of_kind (claim_of c keyword.PrefixItems) in_kind any_front
  all_claimed keyword.Items = among of_kind (claim_of c keyword.Items) in_kind any_rest
  all_claimed keyword.Required = among of_kind (claim_of c keyword.Required) in_kind any_missing
  all_claimed keyword.Properties = among of_kind (claim_of c keyword.Properties) in_kind any_property
  all_claimed keyword.AdditionalProperties = among of_kind (claim_of c keyword.AdditionalProperties) in_kind any_other
  all_claimed _ = tt

  held : (o : Option (Assertion ℕ ℕ)) (a : Assertion ℕ ℕ) → AreAllIf told_of_all o → Contains (option_to_list o) a → AreAll told_of_all a
  held None a h k = let l = k.1 in absurd (omega (arith, l))
  held (Some b) a h k = subst (AreAll told_of_all) (in_single b a k) h

  cause_told : {n : NumberedCause} (p : PlacedCause) → IsCause (f i) f d x (numbered inner (rule.Object c)) n → IsOf p n → Contains told_of_all p
  cause_told {n} p (of_claim {a = b} m h) s =
      let a = contains_map_back inner_of (flat_map option_to_list (claims_of c)) b m in
      let o = in_each_back option_to_list a.0 (claims_of c) a.1 in
      let w = contains_map_back (claim_of c) all_keywords o.0 o.1 in
      held o.0 a.0 (subst (AreAllIf told_of_all) w.2 (all_claimed w.0)) o.2 n p (subst (λ t. Denies t n) (sym a.2) h) s

module _ (f : AllVerdicts) (xs : List (Opened ℕ)) (rules : List Coded) (inner : List ℕ) (i r : ℕ) (x : Opened ℕ) (e : slice_get xs i ≡ Some x) where
  pub object_complete : (c : Conjunction) → slice_get rules r ≡ Some (rule.Object c) → (p : PlacedCause) → IsPlacedCause f xs rules inner i r p → Contains (object_told f inner i (node_at (values xs) i) x c) p
  object_complete c k p h =
      let asks : h.asks ≡ rule.Object c = same_Some h.asks (rule.Object c) (sym h.at_rule ∙ k) in
      let value : h.value ≡ x = same_Some h.value x (sym h.at_item ∙ e) in
      let keyed : IsKeyed (members_in x) c.required (named_in inner (rule.Object c)) p h.named =
      subst (λ v. IsKeyed (members_in v) c.required (named_in inner (rule.Object c)) p h.named) value (subst (λ a. IsKeyed (members_in h.value) (required_in a) (named_in inner a) p h.named) asks h.keyed) in
      let because : IsCause (f i) f (node_at (values xs) i) x (numbered inner (rule.Object c)) h.named =
      subst (λ v. IsCause (f i) f (node_at (values xs) i) v (numbered inner (rule.Object c)) h.named) value (subst (λ a. IsCause (f i) f (node_at (values xs) i) h.value (numbered inner a) h.named) asks h.cause) in
      cause_told f inner i (node_at (values xs) i) c x p because (named_by i (members_in x) c.required (named_in inner (rule.Object c)) p h.named h.stays keyed)

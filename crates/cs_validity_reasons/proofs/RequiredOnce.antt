-- In a schema document of the profile no schema requires a name twice.
use Rattle.std.proofs.Common.{◌≡◌, ℕ, zero, suc, Bool, true, false, not, ◌||◌, List, [], ◌∷◌, ◌++◌, Option, None, Some, map, flat_map, Contains, get_or, slice_index, refl, sym, ap, ◌∙◌, subst, arith}
use Rattle.std.specs.Prelude.{ℤ, pos, slice_get, option_to_list}
use Rattle.std.specs.Option.{option_and_then, option_map_or}
use Rattle.std.specs.List.{AllByRecursion as Each, list_any}
use Rattle.std.specs.Str.{bytes_eq}
use Rattle.std.proofs.lemmas.Bool.{and_parts}
use Rattle.std.proofs.lemmas.List.Folds.{list_any-append}
use Rattle.std.proofs.lemmas.List.Sorted.{Contains-permutation, IsPermutation-sym}
use Rattle.std.proofs.lemmas.Option.{same_Some}
use Rattle.std.proofs.lemmas.Slice.Eq.{bytes_eq-Decides}
use Rattle.cs_document.specs.Document.{Document, null, boolean, integer, text, list, object, Documents, no_documents, document, Members, no_members, member, Entry, elements, entries, under}
use Rattle.cs_document.specs.Sizes.{Characters, Elements, Keys}
use Rattle.cs_document.proofs.Each.{each_append}
use Rattle.cs_profile.specs.Keywords.{Kind, kinds, keywords, all_keywords, entries_of}
use Rattle.cs_profile.specs.Constraint.{Assertion, nothing, valid_by, has_kind, is_among, at_least, at_most, above, below, has_keys, at_keys, in_front, at_least_long, at_most_long, valid_by_all, valid_by_any, by_text, by_integer, by_count, by_list, by_object, texts_in, named, assertion, assertion_at, conjunction, constraint_of}
use Rattle.cs_profile.specs.Places.{at_key, at_index}
use Rattle.cs_profile.specs.Profile.{Visit, Fault, first, fault_of, form_fault, shape_fault, keyword_at, visits, member_visits, list_visits, element_visits, map_visits, named_visits, within, walk_fault}
use Rattle.cs_profile.specs.Shapes.{form_at, taken_in, taken_at, has_form, are_distinct_texts}
use Rattle.cs_profile.specs.Values.{keyword_visits, value_visits}
use Rattle.cs_profile.specs.declared.keyword.Form.{Form}
use Rattle.cs_profile.specs.declared.keyword.Form.TheVariants as form
use Rattle.cs_profile.specs.declared.keyword.Keyword.{Keyword}
use Rattle.cs_profile.specs.declared.keyword.Keyword.TheVariants as keyword
use Rattle.cs_profile.specs.declared.keyword.Vocabulary.TheVariants as vocabulary
use Rattle.cs_profile.proofs.Faultless.{parted, or_else_none}
use Rattle.cs_validate.specs.Numbering.{map_assertion, asserted, said, schema_at}
use Rattle.cs_validate.specs.Rooted.{IsRooted}
use Rattle.cs_validate.specs.Rules.{AreRules, rules_of, in_value, subschemas, member_schemas, list_schemas, element_schemas, map_schemas, named_schemas}
use Rattle.cs_validate.specs.Steps.{unless_empty, claim_of, claims_of, numbered}
use Rattle.cs_validate.specs.declared.rules.Rule.{Rule as Coded}
use Rattle.cs_validate.specs.declared.rules.Rule.TheVariants as rule
use Rattle.cs_validate.specs.declared.rules.Conjunction.{Conjunction}
use Rattle.cs_validity_reasons.proofs.Contained.{place_of, at_place, got_map, contains_map, contains_map_back, in_each, in_each_back, in_single}

-- no text is at two places
abbrev pub AreApart : List (List ℕ) → Type 0
AreApart ks = (i j : ℕ) (k : List ℕ) → slice_get ks i ≡ Some k → slice_get ks j ≡ Some k → i ≡ j

none_apart : AreApart []
none_apart i j k d e = cc

-- ---- distinct texts

neither : (a b : Bool) → (a || b) ≡ false → (a ≡ false) × (b ≡ false)
neither true b e = cc
neither false b e = (refl, e)

turned : (b : Bool) → not b ≡ true → b ≡ false
turned true e = cc
turned false e = refl

-- none is among those before
fresh : (seen : List (List ℕ)) (ds : Documents) → are_distinct_texts seen ds ≡ true → (j : ℕ) (t : List ℕ) → slice_get (texts_in (elements ds)) j ≡ Some t → list_any (bytes_eq t) seen ≡ false
fresh seen no_documents h j t e = cc
fresh seen (document (text s) ds) h zero t e =
    subst (λ u. list_any (bytes_eq u) seen ≡ false) (same_Some s t e) (turned (list_any (bytes_eq s) seen) (and_parts (not (list_any (bytes_eq s) seen)) (are_distinct_texts (seen ++ s ∷ []) ds) h).0)
fresh seen (document (text s) ds) h (suc j) t e =
    let n = fresh (seen ++ s ∷ []) ds (and_parts (not (list_any (bytes_eq s) seen)) (are_distinct_texts (seen ++ s ∷ []) ds) h).1 j t e in
    (neither (list_any (bytes_eq t) seen) (list_any (bytes_eq t) (s ∷ [])) (sym (list_any-append (bytes_eq t) seen (s ∷ [])) ∙ n)).0
fresh seen (document _ ds) h j t e = cc

-- the first is none of those behind it
not_behind : (seen : List (List ℕ)) (s : List ℕ) (ds : Documents) → are_distinct_texts (seen ++ s ∷ []) ds ≡ true → (j : ℕ) (t : List ℕ) → s ≡ t → slice_get (texts_in (elements ds)) j ≡ Some t → ⊥
not_behind seen s ds h j t is e =
    let n = fresh (seen ++ s ∷ []) ds h j t e in
    let m : (bytes_eq t s || false) ≡ false = (neither (list_any (bytes_eq t) seen) (list_any (bytes_eq t) (s ∷ [])) (sym (list_any-append (bytes_eq t) seen (s ∷ [])) ∙ n)).1 in
    let o : bytes_eq t s ≡ false = (neither (bytes_eq t s) false m).0 in
    let y : bytes_eq t s ≡ true = (bytes_eq-Decides t s).1 (sym is) in
    let no : true ≡ false = sym y ∙ o in cc

texts_apart : (seen : List (List ℕ)) (ds : Documents) → are_distinct_texts seen ds ≡ true → AreApart (texts_in (elements ds))
texts_apart seen no_documents h i j t d e = cc
texts_apart seen (document (text s) ds) h zero zero t d e = refl
texts_apart seen (document (text s) ds) h zero (suc j) t d e =
    absurd (not_behind seen s ds (and_parts (not (list_any (bytes_eq s) seen)) (are_distinct_texts (seen ++ s ∷ []) ds) h).1 j t (same_Some s t d) e)
texts_apart seen (document (text s) ds) h (suc i) zero t d e =
    absurd (not_behind seen s ds (and_parts (not (list_any (bytes_eq s) seen)) (are_distinct_texts (seen ++ s ∷ []) ds) h).1 i t (same_Some s t e) d)
texts_apart seen (document (text s) ds) h (suc i) (suc j) t d e =
    ap suc (texts_apart (seen ++ s ∷ []) ds (and_parts (not (list_any (bytes_eq s) seen)) (are_distinct_texts (seen ++ s ∷ []) ds) h).1 i j t d e)
texts_apart seen (document _ ds) h i j t d e = cc

-- ---- each schema in which the walk meets no fault

-- what is under `required` has its shape
abbrev HasShape : Entry Document → Type 0
HasShape e = under e.0 keywords ≡ Some keyword.Required → has_form form.Texts e.1 ≡ true

abbrev IsShaped : Document → Type 0
IsShaped s = Each HasShape (entries_of s)

shaped_if : (place k : List ℕ) (b : Bool) → shape_fault place k b ≡ None → b ≡ true
shaped_if place k true h = refl
shaped_if place k false h = cc

-- the walk meets no fault, where all keywords are taken
abbrev fault_at : Visit → Option Fault
fault_at = fault_of vocabulary.Wide

abbrev Faultless : List Visit → Type 0
Faultless vs = first fault_at vs ≡ None

shaped_at : (root : Bool) (place k : List ℕ) (v : Document) → fault_at (keyword_at root place k v) ≡ None → HasShape (k, v)
shaped_at root place k v h e =
    let is : taken_at vocabulary.Wide root k ≡ Some form.Texts = ap (option_and_then (taken_in vocabulary.Wide root)) e in
    shaped_if place k (has_form form.Texts v) (subst (λ f. form_fault place k v f ≡ None) is h)

members_shaped : (root : Bool) (place : List ℕ) (ms : Members) → Faultless (member_visits root place ms) → Each HasShape (entries ms)
members_shaped root place no_members h = tt
members_shaped root place (member k v ms) h =
    let parts = parted fault_at (keyword_visits root place k v) (member_visits root place ms) h in
    let here = or_else_none (fault_at (keyword_at root place k v)) (first fault_at (within (form_at root k) (value_visits (at_key place k) v))) parts.0 in
    (shaped_at root place k v here.0, members_shaped root place ms parts.1)

value_shaped : (o : Option Form) (place : List ℕ) (v : Document)
    → (Faultless (visits false place v) → Each IsShaped (subschemas false v)) → (Faultless (list_visits place v) → Each IsShaped (list_schemas v)) → (Faultless (map_visits place v) → Each IsShaped (map_schemas v))
    → Faultless (within o (value_visits place v)) → Each IsShaped (in_value o (record { none = []; itself = subschemas false v; elements = list_schemas v; members = map_schemas v }))
value_shaped None place v a b c h = tt
value_shaped (Some form.Schema) place v a b c h = a h
value_shaped (Some form.Schemas) place v a b c h = b h
value_shaped (Some form.NamedSchemas) place v a b c h = c h
value_shaped (Some _) place v a b c h = tt

mutual
  all_shaped : (root : Bool) (place : List ℕ) (d : Document) → Faultless (visits root place d) → Each IsShaped (subschemas root d)
  all_shaped root place null h = (tt, tt)
  all_shaped root place (boolean b) h = (tt, tt)
  all_shaped root place (integer z) h = (tt, tt)
  all_shaped root place (text s) h = (tt, tt)
  all_shaped root place (list ds) h = (tt, tt)
  all_shaped root place (object ms) h = (members_shaped root place ms h, shaped_in_members root place ms h)

  shaped_in_members : (root : Bool) (place : List ℕ) (ms : Members) → Faultless (member_visits root place ms) → Each IsShaped (member_schemas root ms)
  shaped_in_members root place no_members h = tt
  shaped_in_members root place (member k v ms) h =
      let parts = parted fault_at (keyword_visits root place k v) (member_visits root place ms) h in
      let here = or_else_none (fault_at (keyword_at root place k v)) (first fault_at (within (form_at root k) (value_visits (at_key place k) v))) parts.0 in
      each_append IsShaped (in_value (form_at root k) (record { none = []; itself = subschemas false v; elements = list_schemas v; members = map_schemas v })) (member_schemas root ms)
      (value_shaped (form_at root k) (at_key place k) v (all_shaped false (at_key place k) v) (shaped_in_list (at_key place k) v) (shaped_in_map (at_key place k) v) here.1) (shaped_in_members root place ms parts.1)

  shaped_in_list : (place : List ℕ) (d : Document) → Faultless (list_visits place d) → Each IsShaped (list_schemas d)
  shaped_in_list place null h = tt
  shaped_in_list place (boolean b) h = tt
  shaped_in_list place (integer z) h = tt
  shaped_in_list place (text s) h = tt
  shaped_in_list place (list ds) h = shaped_elements place 0 ds h
  shaped_in_list place (object ms) h = tt

  shaped_elements : (place : List ℕ) (i : ℕ) (ds : Documents) → Faultless (element_visits place i ds) → Each IsShaped (element_schemas ds)
  shaped_elements place i no_documents h = tt
  shaped_elements place i (document d ds) h =
      let parts = parted fault_at (visits false (at_index place i) d) (element_visits place (suc i) ds) h in
      each_append IsShaped (subschemas false d) (element_schemas ds) (all_shaped false (at_index place i) d parts.0) (shaped_elements place (suc i) ds parts.1)

  shaped_in_map : (place : List ℕ) (d : Document) → Faultless (map_visits place d) → Each IsShaped (map_schemas d)
  shaped_in_map place null h = tt
  shaped_in_map place (boolean b) h = tt
  shaped_in_map place (integer z) h = tt
  shaped_in_map place (text s) h = tt
  shaped_in_map place (list ds) h = tt
  shaped_in_map place (object ms) h = shaped_named place ms h

  shaped_named : (place : List ℕ) (ms : Members) → Faultless (named_visits place ms) → Each IsShaped (named_schemas ms)
  shaped_named place no_members h = tt
  shaped_named place (member k v ms) h =
      let parts = parted fault_at (visits false (at_key place k) v) (named_visits place ms) h in
      each_append IsShaped (subschemas false v) (named_schemas ms) (all_shaped false (at_key place k) v parts.0) (shaped_named place ms parts.1)

module _ {X : Type 0} (P : X → Type 0) where
  each_got : (xs : List X) → Each P xs → (k : ℕ) (x : X) → slice_get xs k ≡ Some x → P x
  each_got [] h k x e = cc
  each_got (y ∷ xs) h zero x e = subst P (same_Some y x e) h.0
  each_got (y ∷ xs) h (suc k) x e = each_got xs h.1 k x e

  -- each that has a place, and what stands for the others
  got_or : (xs : List X) (d : X) → P d → ((x : X) → Contains xs x → P x) → (k : ℕ) → P (get_or xs k d)
  got_or [] d p h k = p
  got_or (y ∷ xs) d p h zero = h y (at_place (y ∷ xs) y 0 refl)
  got_or (y ∷ xs) d p h (suc k) = got_or xs d p (λ x c. let q = place_of xs x c in h x (at_place (y ∷ xs) x (suc q.0) q.1)) k

rule_shaped : (R : Document) (all : List Document) → AreRules R all → walk_fault vocabulary.Wide R ≡ None → (r : ℕ) → IsShaped (schema_at all r)
rule_shaped R all are h r =
    got_or IsShaped all (boolean false) tt
    (λ s c. let p = place_of (rules_of R) s (Contains-permutation all (rules_of R) s (IsPermutation-sym (rules_of R) all are) c) in each_got IsShaped (rules_of R) (all_shaped true [] R h) p.0 s p.1) r

-- ---- what a schema asserts

abbrev keys_of : {H I : Type 0} → Assertion H I → List (List ℕ)
keys_of (has_keys ks) = ks
keys_of _ = []

abbrev ApartIn : {H I : Type 0} → Assertion H I → Type 0
ApartIn a = AreApart (keys_of a)

module _ {H I : Type 0} where
  apart_by_text : (f : List ℕ → Assertion H I) → ((t : List ℕ) → ApartIn (f t)) → (v : Document) → ApartIn (by_text f v)
  apart_by_text f h (text t) = h t
  apart_by_text f h _ = none_apart

  apart_by_integer : (f : ℤ → Assertion H I) → ((z : ℤ) → ApartIn (f z)) → (v : Document) → ApartIn (by_integer f v)
  apart_by_integer f h (integer z) = h z
  apart_by_integer f h _ = none_apart

  apart_by_count : (f : ℕ → Assertion H I) → ((n : ℕ) → ApartIn (f n)) → (v : Document) → ApartIn (by_count f v)
  apart_by_count f h (integer (pos n)) = h n
  apart_by_count f h _ = none_apart

  apart_by_list : (f : List Document → Assertion H I) → ((ds : List Document) → ApartIn (f ds)) → (v : Document) → ApartIn (by_list f v)
  apart_by_list f h (list ds) = h (elements ds)
  apart_by_list f h _ = none_apart

  apart_by_object : (f : List (Entry Document) → Assertion H I) → ((ms : List (Entry Document)) → ApartIn (f ms)) → (v : Document) → ApartIn (by_object f v)
  apart_by_object f h (object ms) = h (entries ms)
  apart_by_object f h _ = none_apart

apart_by_kind : (o : Option Kind) → ApartIn {H = Document} {I = Document} (option_map_or has_kind o nothing)
apart_by_kind None = none_apart
apart_by_kind (Some k) = none_apart

apart_required : (v : Document) → has_form form.Texts v ≡ true → ApartIn {H = Document} {I = Document} (by_list (λ ts. has_keys (texts_in ts)) v)
apart_required (list ds) h = texts_apart [] ds h
apart_required _ h = none_apart

module _ (R : Document) (beside : List (Entry Document)) where
  apart_at : (w : Keyword) (v : Document) → (w ≡ keyword.Required → has_form form.Texts v ≡ true) → ApartIn (assertion R beside w v)
  apart_at keyword.Required v h = apart_required v (h refl)
  apart_at keyword.Ref v h = apart_by_text (λ t. valid_by (named R t)) (λ t. none_apart) v
  apart_at keyword.Type v h = apart_by_text (λ t. option_map_or has_kind (under t kinds) nothing) (λ t. apart_by_kind (under t kinds)) v
  apart_at keyword.Enum v h = apart_by_list is_among (λ ds. none_apart) v
  apart_at keyword.Minimum v h = apart_by_integer at_least (λ z. none_apart) v
  apart_at keyword.Maximum v h = apart_by_integer at_most (λ z. none_apart) v
  apart_at keyword.ExclusiveMinimum v h = apart_by_integer above (λ z. none_apart) v
  apart_at keyword.ExclusiveMaximum v h = apart_by_integer below (λ z. none_apart) v
  apart_at keyword.Properties v h = apart_by_object at_keys (λ ms. none_apart) v
  apart_at keyword.PrefixItems v h = apart_by_list in_front (λ ds. none_apart) v
  apart_at keyword.MaxItems v h = apart_by_count (at_most_long Elements) (λ n. none_apart) v
  apart_at keyword.MaxLength v h = apart_by_count (at_most_long Characters) (λ n. none_apart) v
  apart_at keyword.MaxProperties v h = apart_by_count (at_most_long Keys) (λ n. none_apart) v
  apart_at keyword.MinItems v h = apart_by_count (at_least_long Elements) (λ n. none_apart) v
  apart_at keyword.MinLength v h = apart_by_count (at_least_long Characters) (λ n. none_apart) v
  apart_at keyword.MinProperties v h = apart_by_count (at_least_long Keys) (λ n. none_apart) v
  apart_at keyword.AllOf v h = apart_by_list valid_by_all (λ ds. none_apart) v
  apart_at keyword.AnyOf v h = apart_by_list valid_by_any (λ ds. none_apart) v
  apart_at _ v h = none_apart

  apart_under : (e : Entry Document) → HasShape e → (o : Option Keyword) → under e.0 keywords ≡ o → ApartIn (option_map_or (λ w. assertion R beside w e.1) o nothing)
  apart_under e h None is = none_apart
  apart_under e h (Some w) is = apart_at w e.1 (λ same. h (is ∙ ap (λ u. Some u) same))

  apart_among : (ms : List (Entry Document)) → Each HasShape ms → (ks : List (List ℕ)) → Contains (flat_map asserted (map (assertion_at R beside) ms)) (has_keys ks) → AreApart ks
  apart_among ms h ks c =
      let a = in_each_back asserted (has_keys ks) (map (assertion_at R beside) ms) c in
      let e = contains_map_back (assertion_at R beside) ms a.0 a.1 in
      let p = place_of ms e.0 e.1 in
      subst ApartIn (e.2 ∙ held a.0 a.2) (apart_under e.0 (each_got HasShape ms h p.0 e.0 p.1) (under e.0.0 keywords) refl)
    where
      held : (a : Assertion Document Document) → Contains (asserted a) (has_keys ks) → a ≡ has_keys ks
      held nothing m = let l = m.1 in absurd (omega (arith, l))
      held a m = in_single a (has_keys ks) m

claimed_apart : (R s : Document) → IsShaped s → (claims : List (Assertion Document Document)) → said (constraint_of R s) ≡ conjunction claims → (ks : List (List ℕ)) → Contains claims (has_keys ks) → AreApart ks
claimed_apart R (object ms) h claims e ks c =
    let is : flat_map asserted (map (assertion_at R (entries ms)) (entries ms)) ≡ claims = cc in
    apart_among R (entries ms) (entries ms) h ks (subst (λ (cs : List (Assertion Document Document)). Contains cs (has_keys ks)) (sym is) c)
claimed_apart R (boolean true) h claims e ks c = cc
claimed_apart R (boolean false) h claims e ks c = cc
claimed_apart R _ h claims e ks c = cc

-- ---- the rules

module _ (R : Document) (rules : List Coded) (inner : List ℕ) (number : ℕ) (rooted : IsRooted R rules inner number) (shaped : walk_fault vocabulary.Wide R ≡ None) where
  object_required : (r : ℕ) (c : Conjunction) → slice_get rules r ≡ Some (rule.Object c) → (ks : List (List ℕ)) → c.required ≡ ks → AreApart ks
  object_required r c e [] is = none_apart
  object_required r c e (k ∷ ks) is =
      let a : Assertion ℕ ℕ = has_keys (k ∷ ks) in
      let told : Contains (claims_of c) (Some a) = subst (Contains (claims_of c)) (ap (unless_empty has_keys) is) (contains_map (claim_of c) all_keywords keyword.Required (at_place all_keywords keyword.Required 24 refl)) in
      let here : Contains (flat_map option_to_list (claims_of c)) a = in_each option_to_list a (claims_of c) (Some a) told (at_place (a ∷ []) a 0 refl) in
      let coded = contains_map (map_assertion (λ j. j) (slice_index inner)) (flat_map option_to_list (claims_of c)) a here in
      let S : ℕ → Document = schema_at rooted.all in
      let claims : List (Assertion ℕ ℕ) = map (map_assertion (λ j. j) (slice_index inner)) (flat_map option_to_list (claims_of c)) in
      let meant = contains_map (map_assertion S S) claims a coded in
      let last = in_each asserted (has_keys (k ∷ ks)) (map (map_assertion S S) claims) (has_keys (k ∷ ks)) meant (at_place (has_keys (k ∷ ks) ∷ []) (has_keys (k ∷ ks)) 0 refl) in
      claimed_apart R (S r) (rule_shaped R rooted.all rooted.are shaped r) _ (rooted.numbering.asks r (numbered inner (rule.Object c)) (got_map (numbered inner) rules r (rule.Object c) e)) (k ∷ ks) last

  -- no rule requires a name twice
  pub required_apart : (r : ℕ) (c : Conjunction) → slice_get rules r ≡ Some (rule.Object c) → AreApart c.required
  required_apart r c e = object_required r c e c.required refl

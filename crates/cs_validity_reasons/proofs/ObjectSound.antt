-- Whatever is told of an object's rule is a cause of the refusal.
use Rattle.std.proofs.Common.{◌≡◌, ⊎_elim, ℕ, zero, suc, ◌+◌, ◌≤◌, ℤ, pos, negsuc, Bool, true, false, not, ◌||◌, List, [], ◌∷◌, Option, Some, None, map, option_map, length, drop, slice_index, Contains, refl, sym, ap, ◌∙◌, subst, arith}
use Rattle.std.specs.Prelude.{slice_get, zip, is_some, option_to_list, nat_le, int_le, int_lt, String}
use Rattle.std.specs.Option.{option_map_or}
use Rattle.std.specs.List.{list_any, flat_map}
use Rattle.std.specs.Str.{bytes_eq}
use Rattle.std.specs.declared.alloc.Global.{Global}
use Rattle.std.proofs.lemmas.List.Elements.{Contains-append_cases}
use Rattle.std.proofs.lemmas.Option.{same_Some}
use Rattle.cs_document.specs.Document.{Document, Entry, under, document_eq}
use Rattle.cs_document.specs.Inside.{map_entry}
use Rattle.cs_document.specs.Opened.{Opened, a_text, a_list, an_integer, an_object}
use Rattle.cs_document.specs.Sizes.{Counted, Characters, Elements, Keys, text_length, size_of}
use Rattle.cs_document.specs.View.{doc_view}
use Rattle.cs_document.proofs.Each.{each_member}
use Rattle.cs_flat.specs.Listed.{values}
use Rattle.cs_flat.specs.Nodes.{node_at}
use Rattle.cs_table.specs.Judged.{AllVerdicts}
use Rattle.cs_profile.specs.Keywords.{all_keywords}
use Rattle.cs_profile.specs.Numbered.{numbered as numbers_from, names_in}
use Rattle.cs_profile.specs.Constraint.{Assertion, valid_by, has_kind, equals, is_among, at_least, at_most, above, below, has_keys, at_keys, at_other_keys, in_front, behind, at_least_long, at_most_long, valid_by_all, valid_by_any, not_valid_by}
use Rattle.cs_profile.specs.Validity.{is_of_kind, if_there, holds}
use Rattle.cs_profile.specs.declared.keyword.Keyword.{Keyword as Word}
use Rattle.cs_profile.specs.declared.keyword.Keyword.TheVariants as keyword
use Rattle.cs_profile.specs.declared.schema.Schema.{Schema}
use Rattle.cs_profile.proofs.Names.{every_keyword}
use Rattle.cs_validate.specs.Asked.{is_at_most_long, is_at_least_long}
use Rattle.cs_validity_reasons.specs.CauseLists.{unless, all_unless, each_from, any_told, upper_told, lower_told, integer_told, length_told, text_told, reference_told, part_told, alternative_told, alternatives_told, negation_told, here_told, missing_told, front_told, rest_told, value_told, named_told, other_told, fronts_told, list_told, all_named_told, map_told, kind_told, object_told}
use Rattle.cs_validity_reasons.specs.Causes as cause
use Rattle.cs_validity_reasons.specs.Causes.{most_keyword, least_keyword, keyword_of, IsDenied, of_keyword, of_reference, of_undefined, of_part, of_alternative, of_missing, of_property, of_additional, of_prefix, of_items, of_claim}
use Rattle.cs_validity_reasons.specs.NumberedCauses.{NumberedCause}
use Rattle.cs_validate.specs.Numbering.{map_assertion}
use Rattle.cs_validity_reasons.specs.PlacedCauses.{members_in, named_in, IsKeyed, StaysAt, IsPlacedCause}
use Rattle.cs_validate.specs.Steps.{kind_of, unless_empty, of_count, places_from, items_place, prefix_place, properties_place, claim_of, claims_of}
use Rattle.cs_validate.specs.declared.rules.Rule.{Rule as Coded}
use Rattle.cs_validate.specs.declared.rules.Rule.TheVariants as rule
use Rattle.cs_validate.specs.declared.rules.Conjunction.{Conjunction}
use Rattle.cs_validity_reasons.specs.Led.{PlacedCause}
use Rattle.cs_validity_reasons.specs.declared.cause.KeyedCause.TheVariants.{Reference, Part, Alternative, Property, Additional, Prefix, Items, Missing, Keyword}
use Rattle.cs_validity_reasons.proofs.Contained.{at_place, got_map, got_map_back, contains_map, in_each, in_single}

-- ---- lists

none_in : {X : Type 0} (x : X) → Contains [] x → ⊥
none_in x h =
    let l = h.1 in absurd (omega (arith, l))

unless_in : (b : Bool) (c p : PlacedCause) → Contains (unless b c) p → (b ≡ false) × (c ≡ p)
unless_in true c p h = absurd (none_in p h)
unless_in false c p h = (refl, in_single c p h)

all_unless_in : (b : Bool) (cs : List PlacedCause) (p : PlacedCause) → Contains (all_unless b cs) p → (b ≡ false) × Contains cs p
all_unless_in true cs p h = absurd (none_in p h)
all_unless_in false cs p h = (refl, h)

one_told : {X : Type 0} (g : ℕ → X → List PlacedCause) (k : ℕ) (xs : List X) (p : PlacedCause) → Contains (each_from g k xs) p → (j : ℕ) × (x : X) × (slice_get xs j ≡ Some x) × Contains (g (k + j) x) p
one_told g k [] p h = absurd (none_in p h)
one_told g k (z ∷ zs) p h =
    ⊎_elim (λ (a : Contains (g k z) p). (0, z, refl, subst (λ n. Contains (g n z) p) (omega arith) a))
    (λ (b : Contains (each_from g (suc k) zs) p). let q = one_told g (suc k) zs p b in (suc q.0, q.1, q.2, subst (λ n. Contains (g n q.1) p) (omega arith) q.3))
    (Contains-append_cases (g k z) (each_from g (suc k) zs) p h)

any_same_numbers : (h : ℕ → Bool) (qs : List ℕ) → list_any h (map (λ k. k) qs) ≡ list_any h qs
any_same_numbers h [] = refl
any_same_numbers h (q ∷ qs) = ap (λ b. h q || b) (any_same_numbers h qs)

both_there : {X Y : Type 0} (xs : List X) (ys : List Y) (j : ℕ) (x : X) (y : Y) → slice_get (zip xs ys) j ≡ Some (x, y) → (slice_get xs j ≡ Some x) × (slice_get ys j ≡ Some y)
both_there [] ys j x y e = cc
both_there (a ∷ xs) [] j x y e = cc
both_there {X} {Y} (a ∷ xs) (b ∷ ys) zero x y e =
    let same : (a, b) ≡ (x, y) = same_Some (a, b) (x, y) e in (ap (λ (p : X × Y). Some p.0) same, ap (λ (p : X × Y). Some p.1) same)
both_there (a ∷ xs) (b ∷ ys) (suc j) x y e = both_there xs ys j x y e

after_them : {X : Type 0} (n j : ℕ) (xs : List X) (x : X) → slice_get (drop n xs) j ≡ Some x → slice_get xs (n + j) ≡ Some x
after_them zero j xs x e = subst (λ k. slice_get xs k ≡ Some x) (omega arith) e
after_them (suc n) j [] x e = cc
after_them (suc n) j (y ∷ xs) x e =
    let same : suc (n + j) ≡ suc n + j = omega arith in subst (λ k. slice_get (y ∷ xs) k ≡ Some x) same (after_them n j xs x e)

either_fails : (a b : Bool) → (a || b) ≡ false → (a ≡ false) × (b ≡ false)
either_fails true b e = cc
either_fails false b e = (refl, e)

none_there : {X : Type 0} (o : Option X) → is_some o ≡ false → o ≡ None
none_there (Some x) e = cc
none_there None e = refl

-- a list that has something in it
of_some : {X Y : Type 0} (g : List X → Y) (xs : List X) (j : ℕ) (x : X) → slice_get xs j ≡ Some x → unless_empty g xs ≡ Some (g xs)
of_some g [] j x e = cc
of_some g (z ∷ zs) j x e = refl

-- ---- claims

every_there : (w : Word) → Contains all_keywords w
every_there = every_keyword (λ w. Contains all_keywords w) (each_member (λ w. Contains all_keywords w) all_keywords (λ w m. m))

module _ (f : AllVerdicts) (inner : List ℕ) (i : ℕ) (d : Document) (c : Conjunction) where
  abbrev claims : List (Assertion ℕ ℕ)
  claims = flat_map option_to_list (claims_of c)

  abbrev inner_of : Assertion ℕ ℕ → Assertion ℕ ℕ
  inner_of a = map_assertion (λ k. k) (slice_index inner) a

  abbrev named_here : List (Entry ℕ)
  named_here = named_in inner (rule.Object c)

  -- what a keyword asks is among the claims
  pub claim_there : (w : Word) (a : Assertion ℕ ℕ) → claim_of c w ≡ Some a → Contains claims a
  claim_there w a e =
      in_each option_to_list a (claims_of c) (claim_of c w) (contains_map (claim_of c) all_keywords w (every_there w)) (subst (λ o. Contains (option_to_list o) a) (sym e) (at_place (a ∷ []) a 0 refl))

  module _ (x : Opened ℕ) where
    -- a cause of a refusal by what a keyword asks
    record IsTold (p : PlacedCause) : Type 0 where
      named : NumberedCause
      stays : StaysAt i p
      keyed : IsKeyed (members_in x) c.required named_here p named
      word : Word
      claim : Assertion ℕ ℕ
      asked : claim_of c word ≡ Some claim
      denied : IsDenied (f i) f d x (inner_of claim) named

    -- ---- keywords by themselves

    of_word : (w : Word) (a : Assertion ℕ ℕ) → claim_of c w ≡ Some a → keyword_of (inner_of a) ≡ Some w → holds (f i) f (inner_of a) d x ≡ false → IsTold (Keyword w)
    of_word w a e k h = record { named = cause.by_keyword w; stays = tt; keyed = refl; word = w; claim = a; asked = e; denied = of_keyword k h }

    word_told : {Y : Type 0} (w : Word) (g : Y → Assertion ℕ ℕ) (test : Y → Bool) (o : Option Y) → claim_of c w ≡ option_map g o
        → ((y : Y) → keyword_of (inner_of (g y)) ≡ Some w) → ((y : Y) → holds (f i) f (inner_of (g y)) d x ≡ test y)
        → (p : PlacedCause) → Contains (unless (if_there test o) (Keyword w)) p → IsTold p
    word_told w g test None e k h p m = absurd (none_in p m)
    word_told w g test (Some y) e k h p m =
        let u = unless_in (test y) (Keyword w) p m in subst IsTold u.1 (of_word w (g y) e (k y) (h y ∙ u.0))

    any_sound : (p : PlacedCause) → Contains (any_told c d x) p → IsTold p
    any_sound p m =
        ⊎_elim (word_told keyword.Type (λ j. has_kind (kind_of j)) (λ j. is_of_kind (kind_of j) x) c.keywords.now.kind refl (λ j. refl) (λ j. refl) p)
        (λ n. ⊎_elim (word_told keyword.Const (λ v. equals (doc_view v)) (λ v. document_eq (doc_view v) d) c.keywords.now.equal refl (λ v. refl) (λ v. refl) p)
        (word_told keyword.Enum is_among (λ vs. list_any (λ v. document_eq v d) vs) c.one_of refl (λ v. refl) (λ v. refl) p)
        (Contains-append_cases _ _ p n))
        (Contains-append_cases _ _ p m)

    -- ---- schemas that are asked of the value itself

    reference_sound : (s : Option (String Global)) (o : Option ℕ) → claim_of c keyword.Ref ≡ option_map (λ n. valid_by o) s → (p : PlacedCause) → Contains (reference_told f i s o) p → IsTold p
    reference_sound None o e p m = absurd (none_in p m)
    reference_sound (Some s) None e p m =
        subst IsTold (in_single (Keyword keyword.Ref) p m) (record { named = cause.by_keyword keyword.Ref; stays = tt; keyed = refl; word = keyword.Ref; claim = valid_by None; asked = e; denied = of_undefined })
    reference_sound (Some s) (Some q) e p m =
        let u = unless_in (f i q) (Reference i q) p m in
        subst IsTold u.1 (record { named = cause.reference q; stays = refl; keyed = refl; word = keyword.Ref; claim = valid_by (Some q); asked = e; denied = of_reference u.0 })

    parts_sound : (p : PlacedCause) → Contains (each_from (part_told f i) 0 c.all_of.items) p → IsTold p
    parts_sound p m =
        let t = one_told (part_told f i) 0 c.all_of.items p m in
        let u = unless_in (f i t.1) (Part i t.1 (0 + t.0)) p t.3 in
        let told : IsTold (Part i t.1 t.0) = record {
          named = cause.part t.0 t.1;
          stays = refl;
          keyed = refl;
          word = keyword.AllOf;
          claim = valid_by_all c.all_of.items;
          asked = of_some valid_by_all c.all_of.items t.0 t.1 t.2;
          denied = of_part (got_map (λ k. k) c.all_of.items t.0 t.1 t.2) u.0;
        } in
        subst IsTold u.1 (subst (λ k. IsTold (Part i t.1 k)) (omega arith) told)

    alternatives_sound : (p : PlacedCause) → Contains (alternatives_told f i c.any_of.items) p → IsTold p
    alternatives_sound p m =
        let a = all_unless_in (list_any (f i) c.any_of.items) (each_from (alternative_told f i) 0 c.any_of.items) p m in
        let t = one_told (alternative_told f i) 0 c.any_of.items p a.1 in
        let told : IsTold (Alternative i t.1 t.0) = record {
          named = cause.alternative t.0 t.1;
          stays = refl;
          keyed = refl;
          word = keyword.AnyOf;
          claim = valid_by_any c.any_of.items;
          asked = of_some valid_by_any c.any_of.items t.0 t.1 t.2;
          denied = of_alternative (any_same_numbers (f i) c.any_of.items ∙ a.0) (got_map (λ k. k) c.any_of.items t.0 t.1 t.2);
        } in
        subst IsTold (in_single (Alternative i t.1 (0 + t.0)) p t.3) (subst (λ k. IsTold (Alternative i t.1 k)) (omega arith) told)

    negation_sound : (p : PlacedCause) → Contains (negation_told f i c.negated) p → IsTold p
    negation_sound p m = word_told keyword.Not not_valid_by (λ q. not (f i q)) c.negated refl (λ q. refl) (λ q. refl) p m

    here_sound : (p : PlacedCause) → Contains (here_told f i c) p → IsTold p
    here_sound p m =
        ⊎_elim (reference_sound c.keywords.now.reference c.reference refl p)
        (λ n. ⊎_elim (parts_sound p) (λ o. ⊎_elim (alternatives_sound p) (negation_sound p) (Contains-append_cases _ _ p o)) (Contains-append_cases _ _ p n))
        (Contains-append_cases _ _ p m)

  -- ---- integers

  integer_sound : (n : ℤ) (p : PlacedCause) → Contains (integer_told c.keywords.now n) p → IsTold (an_integer n) p
  integer_sound n p m =
      ⊎_elim
      (λ (u : Contains (upper_told c.keywords.now n) p). ⊎_elim (word_told (an_integer n) keyword.Maximum at_most (λ l. int_le n l) c.keywords.now.maximum refl (λ l. refl) (λ l. refl) p)
      (word_told (an_integer n) keyword.ExclusiveMaximum below (λ l. int_lt n l) c.keywords.now.below refl (λ l. refl) (λ l. refl) p) (Contains-append_cases _ _ p u))
      (λ (u : Contains (lower_told c.keywords.now n) p). ⊎_elim (word_told (an_integer n) keyword.Minimum at_least (λ l. int_le l n) c.keywords.now.minimum refl (λ l. refl) (λ l. refl) p)
      (word_told (an_integer n) keyword.ExclusiveMinimum above (λ l. int_lt l n) c.keywords.now.above refl (λ l. refl) (λ l. refl) p) (Contains-append_cases _ _ p u))
      (Contains-append_cases _ _ p m)

  -- ---- lengths

  module _ (k : Counted) (x : Opened ℕ) (n : ℕ) (size : size_of k x ≡ Some n) where
    most_sound : (o : Option ℤ) → claim_of c (most_keyword k) ≡ option_map (of_count (at_most_long k)) o → (p : PlacedCause) → Contains (unless (is_at_most_long o n) (Keyword (most_keyword k))) p → IsTold x p
    most_sound None e p m = absurd (none_in p m)
    most_sound (Some (pos l)) e p m =
        let u = unless_in (nat_le n l) (Keyword (most_keyword k)) p m in
        subst (IsTold x) u.1 (of_word x (most_keyword k) (at_most_long k l) e refl (ap (if_there (λ j. nat_le j l)) size ∙ u.0))
    most_sound (Some (negsuc l)) e p m = absurd (none_in p m)

    least_sound : (o : Option ℤ) → claim_of c (least_keyword k) ≡ option_map (of_count (at_least_long k)) o → (p : PlacedCause) → Contains (unless (is_at_least_long o n) (Keyword (least_keyword k))) p → IsTold x p
    least_sound None e p m = absurd (none_in p m)
    least_sound (Some (pos l)) e p m =
        let u = unless_in (nat_le l n) (Keyword (least_keyword k)) p m in
        subst (IsTold x) u.1 (of_word x (least_keyword k) (at_least_long k l) e refl (ap (if_there (λ j. nat_le l j)) size ∙ u.0))
    least_sound (Some (negsuc l)) e p m = absurd (none_in p m)

    length_sound : (most least : Option ℤ) → claim_of c (most_keyword k) ≡ option_map (of_count (at_most_long k)) most → claim_of c (least_keyword k) ≡ option_map (of_count (at_least_long k)) least
        → (p : PlacedCause) → Contains (length_told (most, most_keyword k) (least, least_keyword k) n) p → IsTold x p
    length_sound most least e g p m = ⊎_elim (most_sound most e p) (least_sound least g p) (Contains-append_cases _ _ p m)

  text_sound : (s : List ℕ) (p : PlacedCause) → Contains (text_told c.keywords.now s) p → IsTold (a_text s) p
  text_sound s p m = length_sound Characters (a_text s) (text_length s) refl c.keywords.now.max_length c.keywords.now.min_length refl refl p m

  -- ---- lists

  module _ (ys : List ℕ) where
    abbrev places : List ℕ
    places = places_from (prefix_place c) c.keywords.now.prefix.items

    front_sound : (j : ℕ) (e : ℕ × ℕ) (p : PlacedCause) → slice_get (zip (map (slice_index inner) places) ys) j ≡ Some e → Contains (front_told f (0 + j) e) p → IsTold (a_list ys) p
    front_sound j (q, y) p e m =
        let u = unless_in (f y q) (Prefix (0 + j) y q) p m in
        let b = both_there (map (slice_index inner) places) ys j q y e in
        let s = got_map_back (slice_index inner) places j q b.0 in
        let told : IsTold (a_list ys) (Prefix j y q) = record {
          named = cause.prefix j y q;
          stays = tt;
          keyed = refl;
          word = keyword.PrefixItems;
          claim = in_front places;
          asked = of_some in_front places j s.0 s.1;
          denied = of_prefix refl b.0 b.1 u.0;
        } in
        subst (IsTold (a_list ys)) u.1 (subst (λ k. IsTold (a_list ys) (Prefix k y q)) (omega arith) told)

    fronts_sound : (p : PlacedCause) → Contains (fronts_told f inner c ys) p → IsTold (a_list ys) p
    fronts_sound p m =
        let t = one_told (front_told f) 0 (zip (map (slice_index inner) places) ys) p m in front_sound t.0 t.1 p t.2 t.3

    abbrev before : ℕ
    before = length c.keywords.now.prefix.items

    abbrev rest_rule : ℕ
    rest_rule = slice_index inner (items_place c)

    rests_sound : (o : Option Schema) → claim_of c keyword.Items ≡ option_map (λ s. behind before (items_place c)) o → (p : PlacedCause)
        → Contains (option_map_or (λ s. each_from (rest_told f rest_rule) before (drop before ys)) o []) p → IsTold (a_list ys) p
    rests_sound None e p m = absurd (none_in p m)
    rests_sound (Some s) e p m =
        let t = one_told (rest_told f rest_rule) before (drop before ys) p m in
        let u = unless_in (f t.1 rest_rule) (Items (before + t.0) t.1 rest_rule) p t.3 in
        let within : before ≤ before + t.0 = omega arith in
        subst (IsTold (a_list ys)) u.1 (record {
          named = cause.items (before + t.0) t.1 rest_rule;
          stays = tt;
          keyed = refl;
          word = keyword.Items;
          claim = behind before (items_place c);
          asked = e;
          denied = of_items refl within (after_them before t.0 ys t.1 t.2) u.0;
        })

    list_sound : (p : PlacedCause) → Contains (list_told f inner c ys) p → IsTold (a_list ys) p
    list_sound p m =
        ⊎_elim (length_sound Elements (a_list ys) (length ys) refl c.keywords.now.max_items c.keywords.now.min_items refl refl p)
        (λ n. ⊎_elim (fronts_sound p) (rests_sound c.keywords.now.rest refl p) (Contains-append_cases _ _ p n)) (Contains-append_cases _ _ p m)

  -- ---- maps

  module _ (ms : List (Entry ℕ)) where
    required_sound : (p : PlacedCause) → Contains (each_from (missing_told ms) 0 c.required) p → IsTold (an_object ms) p
    required_sound p m =
        let t = one_told (missing_told ms) 0 c.required p m in
        let u = unless_in (is_some (under t.1 ms)) (Missing (0 + t.0)) p t.3 in
        let told : IsTold (an_object ms) (Missing t.0) = record {
          named = cause.missing t.1;
          stays = tt;
          keyed = (t.1, t.2, refl);
          word = keyword.Required;
          claim = has_keys c.required;
          asked = of_some has_keys c.required t.0 t.1 t.2;
          denied = of_missing refl (at_place c.required t.1 t.0 t.2) (none_there (under t.1 ms) u.0);
        } in
        subst (IsTold (an_object ms)) u.1 (subst (λ k. IsTold (an_object ms) (Missing k)) (omega arith) told)

    abbrev declared : List (Entry ℕ)
    declared = numbers_from (properties_place c) (names_in c.keywords.now.properties.entries)

    value_sound : (j : ℕ) (e : Entry ℕ) (o : Option ℕ) → slice_get named_here j ≡ Some e → under e.0 ms ≡ o → (p : PlacedCause) → Contains (value_told f (0 + j) e.1 o) p → IsTold (an_object ms) p
    value_sound j e None k v p m = absurd (none_in p m)
    value_sound j e (Some y) k v p m =
        let u = unless_in (f y e.1) (Property (0 + j) y e.1) p m in
        let s = got_map_back (map_entry (slice_index inner)) declared j e k in
        let told : IsTold (an_object ms) (Property j y e.1) = record {
          named = cause.property e.0 y e.1;
          stays = tt;
          keyed = (e.0, k, refl);
          word = keyword.Properties;
          claim = at_keys declared;
          asked = of_some at_keys declared j s.0 s.1;
          denied = of_property refl (at_place named_here e j k) v u.0;
        } in
        subst (IsTold (an_object ms)) u.1 (subst (λ l. IsTold (an_object ms) (Property l y e.1)) (omega arith) told)

    named_sound : (p : PlacedCause) → Contains (all_named_told f inner c ms) p → IsTold (an_object ms) p
    named_sound p m =
        let t = one_told (named_told f ms) 0 named_here p m in value_sound t.0 t.1 (under t.1.0 ms) t.2 refl p t.3

    abbrev names : List (List ℕ)
    names = names_in c.keywords.now.properties.entries

    abbrev other_rule : ℕ
    other_rule = slice_index inner c.first

    others_sound : (o : Option Schema) → claim_of c keyword.AdditionalProperties ≡ option_map (λ s. at_other_keys names c.first) o → (p : PlacedCause)
        → Contains (option_map_or (λ s. each_from (other_told f names other_rule) 0 ms) o []) p → IsTold (an_object ms) p
    others_sound None e p m = absurd (none_in p m)
    others_sound (Some s) e p m =
        let t = one_told (other_told f names other_rule) 0 ms p m in
        let u = unless_in (list_any (bytes_eq t.1.0) names || f t.1.1 other_rule) (Additional (0 + t.0) t.1.1 other_rule) p t.3 in
        let b = either_fails (list_any (bytes_eq t.1.0) names) (f t.1.1 other_rule) u.0 in
        let told : IsTold (an_object ms) (Additional t.0 t.1.1 other_rule) = record {
          named = cause.additional t.1.0 t.1.1 other_rule;
          stays = tt;
          keyed = (t.1.0, t.2, refl);
          word = keyword.AdditionalProperties;
          claim = at_other_keys names c.first;
          asked = e;
          denied = of_additional refl (at_place ms t.1 t.0 t.2) b.0 b.1;
        } in
        subst (IsTold (an_object ms)) u.1 (subst (λ k. IsTold (an_object ms) (Additional k t.1.1 other_rule)) (omega arith) told)

    map_sound : (p : PlacedCause) → Contains (map_told f inner c ms) p → IsTold (an_object ms) p
    map_sound p m =
        ⊎_elim (length_sound Keys (an_object ms) (length ms) refl c.keywords.now.max_properties c.keywords.now.min_properties refl refl p)
        (λ n. ⊎_elim (required_sound p) (λ o. ⊎_elim (named_sound p) (others_sound c.keywords.now.additional refl p) (Contains-append_cases _ _ p o)) (Contains-append_cases _ _ p n))
        (Contains-append_cases _ _ p m)

  -- ---- all of them

  kind_sound : (x : Opened ℕ) (p : PlacedCause) → Contains (kind_told f inner c x) p → IsTold x p
  kind_sound (an_integer n) p m = integer_sound n p m
  kind_sound (a_text s) p m = text_sound s p m
  kind_sound (a_list ys) p m = list_sound ys p m
  kind_sound (an_object ms) p m = map_sound ms p m
  kind_sound _ p m = absurd (none_in p m)

  all_sound : (x : Opened ℕ) (p : PlacedCause) → Contains (object_told f inner i d x c) p → IsTold x p
  all_sound x p m =
      ⊎_elim (any_sound x p) (λ n. ⊎_elim (here_sound x p) (kind_sound x p) (Contains-append_cases _ _ p n)) (Contains-append_cases _ _ p m)

module _ (f : AllVerdicts) (xs : List (Opened ℕ)) (rules : List Coded) (inner : List ℕ) (i r : ℕ) (x : Opened ℕ) (e : slice_get xs i ≡ Some x) where
  -- what is told of an object are causes
  pub object_sound : (c : Conjunction) → slice_get rules r ≡ Some (rule.Object c) → (p : PlacedCause) → Contains (object_told f inner i (node_at (values xs) i) x c) p → IsPlacedCause f xs rules inner i r p
  object_sound c k p m =
      let t = all_sound f inner i (node_at (values xs) i) c x p m in
      let there = contains_map (inner_of f inner i (node_at (values xs) i) c) (claims f inner i (node_at (values xs) i) c) t.claim (claim_there f inner i (node_at (values xs) i) c t.word t.claim t.asked) in
      record { value = x; asks = rule.Object c; named = t.named; at_item = e; at_rule = k; stays = t.stays; keyed = t.keyed; cause = of_claim there t.denied }

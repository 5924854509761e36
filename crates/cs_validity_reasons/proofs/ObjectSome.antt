-- Of a pair that an object refuses something is told.
use Rattle.std.proofs.Common.{◌≡◌, ℕ, suc, ◌<◌, ℤ, Bool, true, false, not, ◌&&◌, List, [], ◌∷◌, ◌++◌, Option, Some, None, length, drop, map, zip, slice_index, refl, sym, ◌∙◌, arith}
use Rattle.std.specs.Prelude.{slice_get, is_some, int_le, int_lt, String}
use Rattle.std.specs.Option.{option_map_or}
use Rattle.std.specs.List.{list_all, list_any}
use Rattle.std.specs.declared.alloc.Global.{Global}
use Rattle.cs_document.specs.Document.{Document, Entry, under}
use Rattle.cs_document.specs.Inside.{map_entry}
use Rattle.cs_document.specs.Opened.{Opened, an_integer, a_text, a_list, an_object}
use Rattle.cs_document.specs.Sizes.{text_length}
use Rattle.cs_flat.specs.Listed.{values}
use Rattle.cs_flat.specs.Nodes.{node_at}
use Rattle.cs_rules.specs.Answers.{answer}
use Rattle.cs_rules.proofs.Judged.{answer_is}
use Rattle.cs_table.specs.Judged.{AllVerdicts}
use Rattle.cs_profile.specs.Numbered.{names_in}
use Rattle.cs_profile.specs.Validity.{if_there}
use Rattle.cs_profile.specs.declared.keyword.Keyword.{Keyword as Word}
use Rattle.cs_profile.specs.declared.keyword.Keyword.TheVariants as keyword
use Rattle.cs_profile.specs.declared.schema.Keywords.{Keywords}
use Rattle.cs_validate.proofs.Asked.{claims_hold}
use Rattle.cs_validate.specs.Asked.{asks_type, asks_const, asks_enum, asks_any, is_not_above, is_not_below, asks_integer, is_at_most_long, is_at_least_long, asks_text, asks_reference, asks_alternative, asks_here, places_named, asks_front, asks_at, asks_named, asks_other, asks_others, asks_list, asks_map, asks_kind}
use Rattle.cs_validity_reasons.specs.CauseLists.{unless, all_unless, each_from, any_told, upper_told, lower_told, integer_told, length_told, text_told, reference_told, part_told, alternative_told, alternatives_told, negation_told, here_told, missing_told, front_told, rest_told, value_told, named_told, other_told, fronts_told, rests_told, list_told, all_named_told, others_told, map_told, kind_told, object_told}
use Rattle.cs_validate.specs.Steps.{step, places_from, items_place, prefix_place, properties_place}
use Rattle.cs_validate.specs.declared.rules.Rule.{Rule as Coded}
use Rattle.cs_validate.specs.declared.rules.Rule.TheVariants as rule
use Rattle.cs_validate.specs.declared.rules.Conjunction.{Conjunction}
use Rattle.cs_validity_reasons.specs.Led.{PlacedCause}
use Rattle.cs_validity_reasons.specs.declared.cause.KeyedCause.TheVariants.{Keyword, Part, Alternative}

-- what is asked holds where nothing is told
record Tells (cs : List PlacedCause) (b : Bool) : Type 0 where
  holds : length cs ≡ 0 → b ≡ true

tells_none : Tells [] true
tells_none = record { holds = λ h. refl }

tells_unless : (b : Bool) (c : PlacedCause) → Tells (unless b c) b
tells_unless true c = tells_none
tells_unless false c = record { holds = λ (h : 1 ≡ 0). absurd (omega (arith, h)) }

tells_all_unless : (b : Bool) (c : PlacedCause) (cs : List PlacedCause) → Tells (all_unless b (c ∷ cs)) b
tells_all_unless true c cs = tells_none
tells_all_unless false c cs = record { holds = λ (h : suc (length cs) ≡ 0). absurd (omega (arith, h)) }

-- one after another
tells_both : (cs ds : List PlacedCause) (a b : Bool) → Tells cs a → Tells ds b → Tells (cs ++ ds) (a && b)
tells_both [] ds true b s t = t
tells_both [] ds false b s t = let no : ◌≡◌ {A = Bool} false true = s.holds refl in cc
tells_both (c ∷ cs) ds a b s t = record { holds = λ (h : suc (length (cs ++ ds)) ≡ 0). absurd (omega (arith, h)) }

tells_swapped : (cs ds : List PlacedCause) (a b : Bool) → Tells cs a → Tells ds b → Tells (cs ++ ds) (b && a)
tells_swapped cs ds true true s t = tells_both cs ds true true s t
tells_swapped cs ds false true s t = tells_both cs ds false true s t
tells_swapped cs ds true false s t = tells_both cs ds true false s t
tells_swapped cs ds false false s t = tells_both cs ds false false s t

tells_three : (cs ds es : List PlacedCause) (a b c : Bool) → Tells cs a → Tells ds b → Tells es c → Tells (cs ++ (ds ++ es)) (a && b && c)
tells_three cs ds es true b c s t u = tells_both cs (ds ++ es) true (b && c) s (tells_both ds es b c t u)
tells_three cs ds es false b c s t u = tells_both cs (ds ++ es) false (b && c) s (tells_both ds es b c t u)

tells_four : (cs ds es gs : List PlacedCause) (a b c d : Bool) → Tells cs a → Tells ds b → Tells es c → Tells gs d → Tells (cs ++ (ds ++ (es ++ gs))) (a && b && c && d)
tells_four cs ds es gs true b c d s t u v = tells_both cs (ds ++ (es ++ gs)) true (b && c && d) s (tells_three ds es gs b c d t u v)
tells_four cs ds es gs false b c d s t u v = tells_both cs (ds ++ (es ++ gs)) false (b && c && d) s (tells_three ds es gs b c d t u v)

module _ {X : Type 0} (g : ℕ → X → List PlacedCause) (p : X → Bool) (one : (k : ℕ) (x : X) → Tells (g k x) (p x)) where
  tells_each : (k : ℕ) (xs : List X) → Tells (each_from g k xs) (list_all p xs)
  tells_each k [] = tells_none
  tells_each k (x ∷ xs) = tells_both (g k x) (each_from g (suc k) xs) (p x) (list_all p xs) (one k x) (tells_each (suc k) xs)

  tells_if : {Y : Type 0} (o : Option Y) (k : ℕ) (xs : List X) → Tells (option_map_or (λ y. each_from g k xs) o []) (if_there (λ y. list_all p xs) o)
  tells_if None k xs = tells_none
  tells_if (Some y) k xs = tells_each k xs

-- ---- by the keywords of any value, of integers, and of lengths

tells_any : (c : Conjunction) (d : Document) (x : Opened ℕ) → Tells (any_told c d x) (asks_any c d x)
tells_any c d x =
    tells_three (unless (asks_type c.keywords.now.kind x) (Keyword keyword.Type)) (unless (asks_const c.keywords.now.equal d) (Keyword keyword.Const)) (unless (asks_enum c.one_of d) (Keyword keyword.Enum)) (asks_type c.keywords.now.kind x) (asks_const c.keywords.now.equal d) (asks_enum c.one_of d)
    (tells_unless _ _) (tells_unless _ _) (tells_unless _ _)

tells_integer : (k : Keywords) (n : ℤ) → Tells (integer_told k n) (asks_integer k n)
tells_integer k n =
    tells_both (upper_told k n) (lower_told k n) (is_not_above k n) (is_not_below k n)
    (tells_swapped _ _ (if_there (λ l. int_le n l) k.maximum) (if_there (λ l. int_lt n l) k.below) (tells_unless _ (Keyword keyword.Maximum)) (tells_unless _ (Keyword keyword.ExclusiveMaximum)))
    (tells_swapped _ _ (if_there (λ l. int_le l n) k.minimum) (if_there (λ l. int_lt l n) k.above) (tells_unless _ (Keyword keyword.Minimum)) (tells_unless _ (Keyword keyword.ExclusiveMinimum)))

tells_length : (most least : Option ℤ × Word) (n : ℕ) → Tells (length_told most least n) (is_at_most_long most.0 n && is_at_least_long least.0 n)
tells_length most least n = tells_both _ _ (is_at_most_long most.0 n) (is_at_least_long least.0 n) (tells_unless _ (Keyword most.1)) (tells_unless _ (Keyword least.1))

tells_text : (k : Keywords) (s : List ℕ) → Tells (text_told k s) (asks_text k s)
tells_text k s = tells_length (k.max_length, keyword.MaxLength) (k.min_length, keyword.MinLength) (text_length s)

-- ---- by the schemas that are asked of the value itself

module _ (f : AllVerdicts) (i : ℕ) where
  tells_reference : (name : Option (String Global)) (o : Option ℕ) → Tells (reference_told f i name o) (if_there (λ n. option_map_or (f i) o false) name)
  tells_reference None o = tells_none
  tells_reference (Some s) None = tells_unless false (Keyword keyword.Ref)
  tells_reference (Some s) (Some q) = tells_unless (f i q) _

  tells_alternatives : (qs : List ℕ) → Tells (alternatives_told f i qs) (asks_alternative (f i) qs)
  tells_alternatives [] = record { holds = λ h. refl }
  tells_alternatives (q ∷ qs) = tells_all_unless (list_any (f i) (q ∷ qs)) (Alternative i q 0) (each_from (alternative_told f i) 1 qs)

  tells_here : (c : Conjunction) → Tells (here_told f i c) (asks_here (f i) c)
  tells_here c =
      tells_four (reference_told f i c.keywords.now.reference c.reference) (each_from (part_told f i) 0 c.all_of.items) (alternatives_told f i c.any_of.items) (negation_told f i c.negated)
      (asks_reference (f i) c) (list_all (f i) c.all_of.items) (asks_alternative (f i) c.any_of.items) (if_there (λ q. not (f i q)) c.negated)
      (tells_reference c.keywords.now.reference c.reference) (tells_each (part_told f i) (f i) (λ k q. tells_unless (f i q) (Part i q k)) 0 c.all_of.items) (tells_alternatives c.any_of.items)
      (tells_unless _ (Keyword keyword.Not))

-- ---- of lists and maps

module _ (f : AllVerdicts) (inner : List ℕ) where
  abbrev within : ℕ → ℕ → Bool
  within y p = f y (slice_index inner p)

  tells_fronts : (k : ℕ) (places ys : List ℕ) → Tells (each_from (front_told f) k (zip (map (slice_index inner) places) ys)) (asks_front within places ys)
  tells_fronts k [] ys = tells_none
  tells_fronts k (p ∷ places) [] = tells_none
  tells_fronts k (p ∷ places) (y ∷ ys) = tells_both _ _ (within y p) (asks_front within places ys) (tells_unless (within y p) _) (tells_fronts (suc k) places ys)

  tells_value : (k q : ℕ) (o : Option ℕ) → Tells (value_told f k q o) (if_there (λ y. f y q) o)
  tells_value k q None = tells_none
  tells_value k q (Some y) = tells_unless (f y q) _

  tells_named : (ms : List (Entry ℕ)) (k : ℕ) (places : List (Entry ℕ)) → Tells (each_from (named_told f ms) k (map (map_entry (slice_index inner)) places)) (asks_named within ms places)
  tells_named ms k [] = tells_none
  tells_named ms k (p ∷ places) =
      tells_both _ _ (asks_at within ms p.0 p.1) (asks_named within ms places) (tells_value k (slice_index inner p.1) (under p.0 ms)) (tells_named ms (suc k) places)

  module _ (c : Conjunction) where
    tells_list : (ys : List ℕ) → Tells (list_told f inner c ys) (asks_list within c ys)
    tells_list ys =
        let most : Option ℤ × Word = (c.keywords.now.max_items, keyword.MaxItems) in
        let least : Option ℤ × Word = (c.keywords.now.min_items, keyword.MinItems) in
        tells_three (length_told most least (length ys)) (fronts_told f inner c ys) (rests_told f inner c ys) (is_at_most_long most.0 (length ys) && is_at_least_long least.0 (length ys))
        (asks_front within (places_from (prefix_place c) c.keywords.now.prefix.items) ys)
        (if_there (λ s. list_all (λ y. within y (items_place c)) (drop (length c.keywords.now.prefix.items) ys)) c.keywords.now.rest)
        (tells_length most least (length ys)) (tells_fronts 0 (places_from (prefix_place c) c.keywords.now.prefix.items) ys)
        (tells_if (rest_told f (slice_index inner (items_place c))) (λ y. within y (items_place c)) (λ k y. tells_unless _ _) c.keywords.now.rest (length c.keywords.now.prefix.items) (drop (length c.keywords.now.prefix.items) ys))

    tells_map : (ms : List (Entry ℕ)) → Tells (map_told f inner c ms) (asks_map within c ms)
    tells_map ms =
        let most : Option ℤ × Word = (c.keywords.now.max_properties, keyword.MaxProperties) in
        let least : Option ℤ × Word = (c.keywords.now.min_properties, keyword.MinProperties) in
        tells_four (length_told most least (length ms)) (each_from (missing_told ms) 0 c.required) (all_named_told f inner c ms) (others_told f inner c ms)
        (is_at_most_long most.0 (length ms) && is_at_least_long least.0 (length ms)) (list_all (λ k. is_some (under k ms)) c.required)
        (asks_named within ms (places_named (properties_place c) c.keywords.now.properties.entries))
        (if_there (λ s. asks_others within (names_in c.keywords.now.properties.entries) c.first ms) c.keywords.now.additional)
        (tells_length most least (length ms)) (tells_each (missing_told ms) (λ k. is_some (under k ms)) (λ k n. tells_unless _ _) 0 c.required)
        (tells_named ms 0 (places_named (properties_place c) c.keywords.now.properties.entries))
        (tells_if (other_told f (names_in c.keywords.now.properties.entries) (slice_index inner c.first)) (asks_other within (names_in c.keywords.now.properties.entries) c.first) (λ k m. tells_unless _ _) c.keywords.now.additional 0 ms)

    tells_kind : (x : Opened ℕ) → Tells (kind_told f inner c x) (asks_kind within c x)
    tells_kind (an_integer n) = tells_integer c.keywords.now n
    tells_kind (a_text s) = tells_text c.keywords.now s
    tells_kind (a_list ys) = tells_list ys
    tells_kind (an_object ms) = tells_map ms
    tells_kind _ = tells_none

    tells_object : (i : ℕ) (d : Document) (x : Opened ℕ) → Tells (object_told f inner i d x c) (asks_any c d x && (asks_here (f i) c && asks_kind within c x))
    tells_object i d x =
        tells_both (any_told c d x) (here_told f i c ++ kind_told f inner c x) (asks_any c d x) (asks_here (f i) c && asks_kind within c x) (tells_any c d x)
        (tells_both (here_told f i c) (kind_told f inner c x) (asks_here (f i) c) (asks_kind within c x) (tells_here f i c) (tells_kind x))

some_told : (cs : List PlacedCause) (b : Bool) → Tells cs b → b ≡ false → 0 < length cs
some_told [] b t e = let no : ◌≡◌ {A = Bool} true false = sym (t.holds refl) ∙ e in cc
some_told (c ∷ cs) b t e = omega arith

module _ (f : AllVerdicts) (xs : List (Opened ℕ)) (rules : List Coded) (inner : List ℕ) (i r : ℕ) (x : Opened ℕ) (e : slice_get xs i ≡ Some x) where
  pub object_some : (c : Conjunction) → slice_get rules r ≡ Some (rule.Object c) → f i r ≡ answer step rules inner (values xs) xs i r f → f i r ≡ false
      → 0 < length (object_told f inner i (node_at (values xs) i) x c)
  object_some c k judged refused =
      let asks = λ (d : Document). (asks_any c d x && (asks_here (f i) c && asks_kind (within f inner) c x)) in
      some_told (object_told f inner i (node_at (values xs) i) x c) (asks (node_at (values xs) i)) (tells_object f inner c i (node_at (values xs) i) x)
      (sym (claims_hold (f i) (within f inner) (node_at (values xs) i) c x) ∙ sym (answer_is step rules inner (values xs) xs i r f (rule.Object c) x k e) ∙ sym judged ∙ refused)

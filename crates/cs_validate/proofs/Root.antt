-- The root beside the schema that it is without its definitions and its dialect.
use Rattle.std.proofs.Common.{◌≡◌, ℕ, max, Bool, true, false, ◌||◌, List, [], ◌∷◌, ◌++◌, Option, Some, None, map, codes, length, bytes_eq, Ordering, Less, Equal, Greater, nat_cmp, is_eq, String, Global, refl, sym, ap, ap₂, ◌∙◌, subst, true≢false, append_assoc, if◌then◌else◌}
use Rattle.std.specs.Option.{option_and_then}
use Rattle.std.specs.List.{flat_map}
use Rattle.std.specs.Cmp.Lexicographic.{slice_cmp}
use Rattle.std.specs.Ordering.{match_ordering}
use Rattle.std.proofs.lemmas.Map.Text.{is_eq-slice_cmp}
use Rattle.std.proofs.lemmas.Slice.Eq.{bytes_eq-Decides}
use Rattle.std.proofs.lemmas.List.Sorted.{IsPermutation-refl, IsPermutation-sym, IsPermutation-append, IsPermutation-cons}
use Rattle.cs_document.specs.Document.{Document, null, boolean, integer, text, list, object, Members, no_members, member, Entry, entries, under, put}
use Rattle.cs_document.specs.View.{members_of}
use Rattle.cs_profile.specs.Keywords.{keywords, elements_of, entries_of, listed_under}
use Rattle.cs_profile.specs.Constraint.{assertion, assertion_at, constraint_of, Assertion, at_other_keys, behind, conjunction, places_taken}
use Rattle.cs_profile.specs.Shapes.{form_in, dialect}
use Rattle.cs_profile.specs.Trim.{with_dialect, with_member}
use Rattle.cs_profile.specs.SchemaDocument.{Slot, present, slots_of, schema_view, SchemaValue, document_of, definitions_view, unless_no_map}
use Rattle.cs_profile.specs.Root.{with_definitions}
use Rattle.cs_profile.specs.declared.keyword.Keyword.{Keyword}
use Rattle.cs_profile.specs.declared.keyword.Keyword.TheVariants as keyword
use Rattle.cs_profile.specs.declared.schema.Schema.{Schema}
use Rattle.cs_profile.proofs.Definitions.{by_case, no_definitions}
use Rattle.cs_profile.proofs.Names.{name_of-named}
use Rattle.cs_profile.proofs.Slots.{has_slot}
use Rattle.cs_validate.specs.Numbering.{asserted, said}
use Rattle.cs_validate.specs.Rules.{in_value, subschemas, member_schemas, list_schemas, map_schemas, named_schemas}
use Rattle.cs_validate.specs.Placing.{placed_by, placed_by_members, left_by}
use Rattle.cs_rules.proofs.Permutations.{Same, equal, joined, exchange, to_front, flat_map-IsPermutation}
use Rattle.cs_validate.proofs.Whole.{inside, inside_append, whole_members, whole_of}

-- ---- `$schema` is put in

-- what is gathered from the members one by one, and takes nothing from `$schema`
module _ {B : Type 0} (F : Members → B) (g : Entry Document → B → B) (more : (k : List ℕ) (v : Document) (ms : Members) → F (member k v ms) ≡ g (k, v) (F ms))
    (silent : (v : Document) (b : B) → g (codes "$schema", v) b ≡ b) where
  unseen : (d : Document) (ms : Members) → F (member (codes "$schema") d ms) ≡ F ms
  unseen d ms = more (codes "$schema") d ms ∙ silent d (F ms)

  put_by_order : (m : List ℕ) (d e : Document) (ms : Members) → F (put (codes "$schema") d ms) ≡ F ms → (o : Ordering) → slice_cmp nat_cmp (codes "$schema") m ≡ o
      → F (match_ordering o (member (codes "$schema") d (member m e ms)) (member m d ms) (member m e (put (codes "$schema") d ms))) ≡ F (member m e ms)
  put_by_order m d e ms rest Less c = unseen d (member m e ms)
  put_by_order m d e ms rest Equal c =
      let same : codes "$schema" ≡ m = (bytes_eq-Decides (codes "$schema") m).0 (sym (is_eq-slice_cmp (codes "$schema") m) ∙ ap is_eq c) in
      subst (λ n. F (member n d ms) ≡ F (member n e ms)) same (unseen d ms ∙ sym (unseen e ms))
  put_by_order m d e ms rest Greater c = more m e (put (codes "$schema") d ms) ∙ ap (g (m, e)) rest ∙ sym (more m e ms)

  all_put : (d : Document) (ms : Members) → F (put (codes "$schema") d ms) ≡ F ms
  all_put d no_members = unseen d no_members
  all_put d (member m e ms) = put_by_order m d e ms (all_put d ms) (slice_cmp nat_cmp (codes "$schema") m) refl

-- the members of a root
abbrev rooted : Option Document → Members → Members
rooted o ms = put (codes "$schema") (text dialect) (with_member o (codes "$defs") ms)

-- ---- the root asks the same

properties_rooted : (o : Option Document) (ms : Members) → listed_under (codes "properties") (entries (rooted o ms)) ≡ listed_under (codes "properties") (entries ms)
properties_rooted o ms =
    all_put (λ ns. listed_under (codes "properties") (entries ns)) (λ e b. (if bytes_eq (codes "properties") e.0 then entries_of e.1 else []) ++ b) (λ k v ns. refl) (λ v b. refl) (text dialect) (with_member o (codes "$defs") ms) ∙ by o
  where
    by : (o : Option Document) → listed_under (codes "properties") (entries (with_member o (codes "$defs") ms)) ≡ listed_under (codes "properties") (entries ms)
    by None = refl
    by (Some v) = refl

places_rooted : (o : Option Document) (ms : Members) → places_taken (entries (rooted o ms)) ≡ places_taken (entries ms)
places_rooted o ms =
    all_put (λ ns. places_taken (entries ns)) (λ e b. if bytes_eq (codes "prefixItems") e.0 then max (length (elements_of e.1)) b else b) (λ k v ns. refl) (λ v b. refl) (text dialect) (with_member o (codes "$defs") ms) ∙ by o
  where
    by : (o : Option Document) → places_taken (entries (with_member o (codes "$defs") ms)) ≡ places_taken (entries ms)
    by None = refl
    by (Some v) = refl

module _ (R : Document) where
  -- what the members assert, beside some keywords
  abbrev gathered : List (Entry Document) → Members → List (Assertion Document Document)
  gathered beside ms = flat_map asserted (map (assertion_at R beside) (entries ms))

  module _ (c b : List (Entry Document)) (properties : listed_under (codes "properties") c ≡ listed_under (codes "properties") b) (places : places_taken c ≡ places_taken b) where
    alike : (w : Keyword) (v : Document) → assertion R c w v ≡ assertion R b w v
    alike keyword.AdditionalProperties s = ap (λ es. at_other_keys (map (λ e. e.0) es) s) properties
    alike keyword.Items s = ap (λ n. behind n s) places
    alike _ _ = refl

    alike_at : (k : List ℕ) (v : Document) (o : Option Keyword) → under k keywords ≡ o → assertion_at R c (k, v) ≡ assertion_at R b (k, v)
    alike_at k v None e = rw e refl
    alike_at k v (Some w) e = rw e (alike w v)

    all_alike : (ms : Members) → gathered c ms ≡ gathered b ms
    all_alike no_members = refl
    all_alike (member k v ms) = ap₂ (λ a as'. asserted a ++ as') (alike_at k v (under k keywords) refl) (all_alike ms)

  pub root_said : (o : Option Document) (d : Document) → said (constraint_of R (with_dialect (with_definitions o d))) ≡ said (constraint_of R d)
  root_said o (object ms) =
      let c = entries (rooted o ms) in
      ap conjunction (all_put (gathered c) (λ e b. asserted (assertion_at R c e) ++ b) (λ k v ns. refl) (λ v b. refl) (text dialect) (with_member o (codes "$defs") ms)
      ∙ by c o ∙ all_alike c (entries ms) (properties_rooted o ms) (places_rooted o ms) ms)
    where
      by : (c : List (Entry Document)) (o : Option Document) → gathered c (with_member o (codes "$defs") ms) ≡ gathered c ms
      by c None = refl
      by c (Some v) = refl
  root_said o null = refl
  root_said o (boolean b) = refl
  root_said o (integer z) = refl
  root_said o (text s) = refl
  root_said o (list ds) = refl

-- ---- the schemas in the root

-- what is before a schema in what is placed with it
abbrev pub before : Document → List Document
before (object ms) = placed_by_members ms
before _ = []

pub placed_last : (s : Document) → placed_by s ≡ before s ++ s ∷ []
placed_last null = refl
placed_last (boolean b) = refl
placed_last (integer z) = refl
placed_last (text t) = refl
placed_last (list ds) = refl
placed_last (object ms) = refl

-- the schemas inside one
abbrev below : Document → List Document
below (object ms) = member_schemas false ms
below _ = []

whole_below : (s : Document) → Same (before s ++ inside (left_by s)) (below s)
whole_below null = IsPermutation-refl []
whole_below (boolean b) = IsPermutation-refl []
whole_below (integer z) = IsPermutation-refl []
whole_below (text t) = IsPermutation-refl []
whole_below (list ds) = IsPermutation-refl []
whole_below (object ms) = whole_members ms

-- the definitions' schemas
abbrev pub bodies : SchemaValue → List Document
bodies v = map (λ m. schema_view m.1) v.definitions

abbrev held : Bool → Option Keyword → Document → List Document
held root o v = in_value (option_and_then (form_in root) o) (record { none = []; itself = subschemas false v; elements = list_schemas v; members = map_schemas v })

-- but for `$defs` a keyword holds the same at the root
same_held : (o : Option Keyword) (v : Document) → (o ≡ Some keyword.Defs → ⊥) → held true o v ≡ held false o v
same_held (Some keyword.Defs) v none = absurd (none refl)
same_held None v none = refl
same_held _ v none = refl

no_defs : (k : List ℕ) → bytes_eq (codes "$defs") k ≡ false → under k keywords ≡ Some keyword.Defs → ⊥
no_defs k h e = true≢false (sym ((bytes_eq-Decides (codes "$defs") k).1 (name_of-named k keyword.Defs e)) ∙ h)

same_members : (ss : List Slot) → has_slot (codes "$defs") ss ≡ false → member_schemas true (present ss) ≡ member_schemas false (present ss)
same_members [] h = refl
same_members ((n, None) ∷ ss) h = by (bytes_eq (codes "$defs") n) h (same_members ss)
  where
    by : (b : Bool) → (b || has_slot (codes "$defs") ss) ≡ false → (has_slot (codes "$defs") ss ≡ false → member_schemas true (present ss) ≡ member_schemas false (present ss)) → member_schemas true (present ss) ≡ member_schemas false (present ss)
    by true h next = cc
    by false h next = next h
same_members ((n, Some v) ∷ ss) h = by (bytes_eq (codes "$defs") n) refl h (same_members ss)
  where
    by : (b : Bool) → bytes_eq (codes "$defs") n ≡ b → (b || has_slot (codes "$defs") ss) ≡ false → (has_slot (codes "$defs") ss ≡ false → member_schemas true (present ss) ≡ member_schemas false (present ss))
        → member_schemas true (member n v (present ss)) ≡ member_schemas false (member n v (present ss))
    by true e h next = cc
    by false e h next = ap₂ ◌++◌ (same_held (under n keywords) v (no_defs n e)) (next h)

named_definitions : (es : List (String Global × Schema)) → named_schemas (members_of (definitions_view es)) ≡ inside (map (λ m. schema_view m.1) es)
named_definitions [] = refl
named_definitions (e ∷ es) = ap (λ xs. subschemas false (schema_view e.1) ++ xs) (named_definitions es)

members_rooted : (es : List (String Global × Schema)) (ms : Members) → member_schemas true (rooted (unless_no_map (definitions_view es)) ms) ≡ inside (map (λ m. schema_view m.1) es) ++ member_schemas true ms
members_rooted es ms =
    all_put (member_schemas true) (λ e b. held true (under e.0 keywords) e.1 ++ b) (λ k v ns. refl) (λ v b. refl) (text dialect) (with_member (unless_no_map (definitions_view es)) (codes "$defs") ms) ∙ by es
  where
    by : (es : List (String Global × Schema)) → member_schemas true (with_member (unless_no_map (definitions_view es)) (codes "$defs") ms) ≡ inside (map (λ m. schema_view m.1) es) ++ member_schemas true ms
    by [] = refl
    by (e ∷ es) = ap (λ xs. xs ++ member_schemas true ms) (named_definitions (e ∷ es))

root_whole : (v : SchemaValue) → ((b : Bool) → schema_view v.root ≡ boolean b → v.definitions ≡ [])
    → subschemas true (document_of v) ≡ document_of v ∷ (inside (bodies v) ++ below (schema_view v.root))
root_whole v bare =
    by_case (λ d. ((b : Bool) → d ≡ boolean b → v.definitions ≡ []) → (let R = with_dialect (with_definitions (unless_no_map (definitions_view v.definitions)) d) in subschemas true R ≡ R ∷ (inside (bodies v) ++ below d)))
    (λ b bare. ap (λ es. boolean b ∷ (inside (map (λ m. schema_view m.1) es) ++ [])) (sym (bare b refl)))
    (λ k bare. ap (λ xs. object (rooted (unless_no_map (definitions_view v.definitions)) (present (slots_of k))) ∷ xs)
    (members_rooted v.definitions (present (slots_of k)) ∙ ap (λ xs. inside (bodies v) ++ xs) (same_members (slots_of k) (no_definitions k))))
    v.root bare

-- with the definitions numbered in some order, and the root behind them, all is numbered or waits
pub root_counted : (v : SchemaValue) → ((b : Bool) → schema_view v.root ≡ boolean b → v.definitions ≡ []) → (ss : List Document) → Same (bodies v) ss
    → (let s = schema_view v.root in Same (subschemas true (document_of v)) ((flat_map placed_by ss ++ (before s ++ document_of v ∷ [])) ++ inside (flat_map left_by ss ++ left_by s)))
root_counted v bare ss perm =
    let R = document_of v in
    let s = schema_view v.root in
    let P = flat_map placed_by ss in
    let L = flat_map left_by ss in
    let Q = before s in
    let I = inside L ++ inside (left_by s) in
    let bodies_whole : Same (inside (bodies v)) (P ++ inside L) = joined (flat_map-IsPermutation (subschemas false) (bodies v) ss perm) (IsPermutation-sym (P ++ inside L) (inside ss) (whole_of ss)) in
    let rest = IsPermutation-append (inside (bodies v)) (P ++ inside L) (below s) (Q ++ inside (left_by s)) bodies_whole (IsPermutation-sym (Q ++ inside (left_by s)) (below s) (whole_below s)) in
    let all = joined rest (exchange P (inside L) Q (inside (left_by s))) in
    joined (equal _ _ (root_whole v bare)) (joined (IsPermutation-cons R (inside (bodies v) ++ below s) ((P ++ Q) ++ I) all)
    (joined (IsPermutation-sym (((P ++ Q) ++ R ∷ []) ++ I) (R ∷ ((P ++ Q) ++ I)) (to_front R (P ++ Q) I ((P ++ Q) ++ I) (IsPermutation-refl ((P ++ Q) ++ I))))
    (equal _ _ (ap₂ ◌++◌ (append_assoc P Q (R ∷ [])) (sym (inside_append L (left_by s)))))))

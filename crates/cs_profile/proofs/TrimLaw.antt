-- The law of trimming: a schema document and the trimmed one validate the same documents. What trimming takes away
-- asserts nothing, and a schema and the trimmed one ask the same of their parts.
use Rattle.std.proofs.Common.{◌≡◌, ℕ, suc, pos, max, length, Bool, true, false, ◌&&◌, ◌||◌, List, [], ◌∷◌, ◌++◌, map, Option, Some, None, Ordering, Less, Equal, Greater, nat_cmp, bytes_eq, is_eq, codes, refl, sym, ap, ap₂, ◌∙◌, subst, if◌then◌else◌}
use Rattle.std.proofs.lemmas.List.Folds.{list_all-map}
use Rattle.std.proofs.lemmas.Map.Text.{is_eq-slice_cmp}
use Rattle.std.proofs.lemmas.Slice.Eq.{bytes_eq-Decides}
use Rattle.std.specs.Cmp.Lexicographic.{slice_cmp}
use Rattle.std.specs.List.{list_all, list_any}
use Rattle.std.specs.Option.{option_map, option_and_then, option_map_or}
use Rattle.std.specs.Ordering.{match_ordering}
use Rattle.cs_document.specs.Document.{Document, null, boolean, integer, text, list, object, Documents, no_documents, document, Members, no_members, member, Entry, elements, entries, under, put}
use Rattle.cs_document.specs.Opened.{Opened, an_object, opened}
use Rattle.cs_profile.specs.Keywords.{keywords, Kind, kinds, elements_of, entries_of, listed_under, defined, text_after, reference_start}
use Rattle.cs_profile.specs.declared.keyword.Keyword.{Keyword}
use Rattle.cs_profile.specs.declared.keyword.Keyword.TheVariants as keyword
use Rattle.cs_profile.specs.Constraint.{Assertion, nothing, has_kind, places_taken, assertion, assertion_at, at_other_keys, behind, Constraint, constraint_of}
use Rattle.cs_profile.specs.Validity.{if_array, if_object, if_there, front_holds, holds, is_satisfied, IsValidity}
use Rattle.cs_profile.specs.Loops.{NoLoop}
use Rattle.cs_profile.specs.Shapes.{form_of, form_in, keeping, is_kept, dialect}
use Rattle.cs_profile.specs.Trim.{trim, trimmed, trimmed_members, trimmed_list, trimmed_elements, trimmed_as, with_member, KeepsValidity}
use Rattle.cs_profile.specs.Values.{trimmed_value, value_trims}
use Rattle.cs_profile.proofs.Faultless.{left}
use Rattle.cs_profile.proofs.Meanings.{one_meaning}
use Rattle.cs_profile.proofs.Profiles.{below, entries_trimmed, listed_trimmed, defined_trimmed}

-- ---- lists of schemas, trimmed

elements_trimmed : (ds : Documents) → elements (trimmed_elements ds) ≡ map (trimmed false) (elements ds)
elements_trimmed no_documents = refl
elements_trimmed (document d ds) = ap (λ (es : List Document). trimmed false d ∷ es) (elements_trimmed ds)

any_mapped : (p : Document → Bool) (ds : List Document) → list_any p (map (trimmed false) ds) ≡ list_any (λ d. p (trimmed false d)) ds
any_mapped p [] = refl
any_mapped p (d ∷ ds) = ap (λ b. p (trimmed false d) || b) (any_mapped p ds)

keys_below : (es : List (Entry Document)) → map (λ e. e.0) (map below es) ≡ map (λ e. e.0) es
keys_below [] = refl
keys_below (e ∷ es) = ap (λ (ks : List (List ℕ)). e.0 ∷ ks) (keys_below es)

-- ---- what is beside a keyword

-- the keys of `properties`
abbrev property_keys : List (Entry Document) → List (List ℕ)
property_keys es = map (λ e. e.0) (listed_under (codes "properties") es)

properties_trimmed : (root : Bool) (ms : Members) → property_keys (entries (trimmed_members root ms)) ≡ property_keys (entries ms)
properties_trimmed root ms = ap (map (λ e. e.0)) (listed_trimmed root (codes "properties") refl ms) ∙ keys_below (listed_under (codes "properties") (entries ms))

as_long : (ds : Documents) → length (elements (trimmed_elements ds)) ≡ length (elements ds)
as_long no_documents = refl
as_long (document d ds) = ap suc (as_long ds)

as_long_in : (v : Document) → length (elements_of (trimmed_list v)) ≡ length (elements_of v)
as_long_in null = refl
as_long_in (boolean b) = refl
as_long_in (integer z) = refl
as_long_in (text t) = refl
as_long_in (list ds) = as_long ds
as_long_in (object ms) = refl

elsewhere : (k : List ℕ) (o : Option Document) (ns : Members) → bytes_eq (codes "prefixItems") k ≡ false → places_taken (entries (with_member o k ns)) ≡ places_taken (entries ns)
elsewhere k None ns e = refl
elsewhere k (Some v) ns e = rw e refl

one_place : (root : Bool) (k : List ℕ) (v : Document) (ns ms : Members) → places_taken (entries ns) ≡ places_taken (entries ms) → (t : Bool) → bytes_eq (codes "prefixItems") k ≡ t
    → places_taken (entries (with_member (trimmed_value root k v) k ns)) ≡ places_taken (entries (member k v ms))
one_place root k v ns ms h true e =
    subst (λ n. places_taken (entries (with_member (trimmed_value root n v) n ns)) ≡ places_taken (entries (member n v ms))) ((bytes_eq-Decides (codes "prefixItems") k).0 e)
    (ap₂ max (as_long_in v) h)
one_place root k v ns ms h false e = elsewhere k (trimmed_value root k v) ns e ∙ h ∙ sym (elsewhere k (Some v) ms e)

places_trimmed : (root : Bool) (ms : Members) → places_taken (entries (trimmed_members root ms)) ≡ places_taken (entries ms)
places_trimmed root no_members = refl
places_trimmed root (member k v ms) = one_place root k v (trimmed_members root ms) ms (places_trimmed root ms) (bytes_eq (codes "prefixItems") k) refl

-- ---- what a keyword asks, trimmed and not: `here` and `inside` are asked of trimmed schemas

module _ (R R' : Document) (same : (n : List ℕ) → defined R' n ≡ option_map (trimmed false) (defined R n)) (here : Document → Bool) (inside : Document → Document → Bool) (x : Document) where
  -- what they say of schemas that are not trimmed
  abbrev here_below : Document → Bool
  here_below p = here (trimmed false p)

  abbrev inside_below : Document → Document → Bool
  inside_below y p = inside y (trimmed false p)

  named_alike : (o : Option (List ℕ)) → option_map_or here (option_and_then (defined R') o) false ≡ option_map_or here_below (option_and_then (defined R) o) false
  named_alike None = refl
  named_alike (Some n) = ap (λ o. option_map_or here o false) (same n) ∙ through (defined R n)
    where
      through : (o : Option Document) → option_map_or here (option_map (trimmed false) o) false ≡ option_map_or here_below o false
      through None = refl
      through (Some s) = refl

  kind_alike : (o : Option Kind) → holds here inside (option_map_or has_kind o nothing) x (opened x) ≡ holds here_below inside_below (option_map_or has_kind o nothing) x (opened x)
  kind_alike None = refl
  kind_alike (Some k) = refl

  front_alike : (ss ys : List Document) → front_holds here inside (map (trimmed false) ss) ys ≡ front_holds here_below inside_below ss ys
  front_alike [] ys = refl
  front_alike (s ∷ ss) [] = refl
  front_alike (s ∷ ss) (y ∷ ys) = ap (λ b. inside y (trimmed false s) && b) (front_alike ss ys)

  module _ (c b : List (Entry Document)) (properties : property_keys c ≡ property_keys b) (places : places_taken c ≡ places_taken b) where
    abbrev asks : Assertion Document Document → Bool
    asks a = holds here inside a x (opened x)

    abbrev asks_below : Assertion Document Document → Bool
    asks_below a = holds here_below inside_below a x (opened x)

    -- a keyword that stays
    kept_alike : (w : Keyword) (v : Document) → asks (assertion R' c w (left (form_of w) v)) ≡ asks_below (assertion R b w v)
    kept_alike keyword.Ref (text t) = named_alike (text_after reference_start t)
    kept_alike keyword.Type (text t) = kind_alike (under t kinds)
    kept_alike keyword.Properties (object ss) =
        λ i. if_object (λ ms. (ap (list_all (λ p. if_there (λ y. inside y p.1) (under p.0 ms))) (entries_trimmed ss) ∙ list_all-map (λ p. if_there (λ y. inside y p.1) (under p.0 ms)) below (entries ss)) i) (opened x)
    kept_alike keyword.AdditionalProperties s = ap (λ ks. asks (at_other_keys ks (trimmed false s))) properties
    kept_alike keyword.PrefixItems (list ss) = λ i. if_array (λ ys. (ap (λ es. front_holds here inside es ys) (elements_trimmed ss) ∙ front_alike (elements ss) ys) i) (opened x)
    kept_alike keyword.Items s = ap (λ n. asks (behind n (trimmed false s))) places
    kept_alike keyword.AllOf (list ss) = ap (list_all here) (elements_trimmed ss) ∙ list_all-map here (trimmed false) (elements ss)
    kept_alike keyword.AnyOf (list ss) = ap (list_any here) (elements_trimmed ss) ∙ any_mapped here (elements ss)
    kept_alike _ (integer (pos n)) = refl
    kept_alike _ _ = refl

    any_object : (o : Opened Document) → if_object (λ ms. true) o ≡ true
    any_object (an_object ms) = refl
    any_object _ = refl

    -- a keyword that is left out
    lost : (w : Keyword) (v : Document) → is_kept (keeping (form_of w)) v ≡ false → asks_below (assertion R b w v) ≡ true
    lost keyword.Schema v h = refl
    lost keyword.Defs v h = refl
    lost keyword.Title v h = refl
    lost keyword.Description v h = refl
    lost keyword.Comment v h = refl
    lost keyword.Required (list no_documents) h = any_object (opened x)
    lost keyword.Required (list (document d ds)) h = cc
    lost keyword.Required (object ms) h = refl
    lost keyword.Required _ h = refl
    lost keyword.Properties (object no_members) h = any_object (opened x)
    lost keyword.Properties (object (member k v ms)) h = cc
    lost keyword.Properties _ h = refl
    lost _ v h = cc

    abbrev all_ask : List (Entry Document) → Bool
    all_ask es = list_all (λ a. asks a) (map (assertion_at R' c) es)

    abbrev all_ask_below : List (Entry Document) → Bool
    all_ask_below es = list_all (λ a. asks_below a) (map (assertion_at R b) es)

    stands_alike : (k : List ℕ) (v : Document) (ns ms : Members) (w : Keyword) → under k keywords ≡ Some w → all_ask (entries ns) ≡ all_ask_below (entries ms) → (t : Bool) → is_kept (keeping (form_of w)) v ≡ t
        → all_ask (entries (with_member (if t then Some (left (form_of w) v) else None) k ns)) ≡ (asks_below (assertion R b w v) && all_ask_below (entries ms))
    stands_alike k v ns ms w e h true s = ap₂ ◌&&◌ (ap (λ o. asks (option_map_or (λ q. assertion R' c q (left (form_of w) v)) o nothing)) e ∙ kept_alike w v) h
    stands_alike k v ns ms w e h false s = h ∙ sym (ap (λ a. a && all_ask_below (entries ms)) (lost w v s))

    -- below the root a key that has no place there stays, and asks nothing
    no_keyword : (k : List ℕ) (v : Document) (ns ms : Members) (o : Option Keyword) → under k keywords ≡ o → asks (option_map_or (λ q. assertion R' c q v) o nothing) ≡ true → asks_below (option_map_or (λ q. assertion R b q v) o nothing) ≡ true
        → all_ask (entries ns) ≡ all_ask_below (entries ms) → all_ask (entries (member k v ns)) ≡ (asks_below (option_map_or (λ q. assertion R b q v) o nothing) && all_ask_below (entries ms))
    no_keyword k v ns ms o e one other h = ap₂ ◌&&◌ (ap (λ p. asks (option_map_or (λ q. assertion R' c q v) p nothing)) e ∙ one ∙ sym other) h

    one_alike : (root : Bool) (k : List ℕ) (v : Document) (ns ms : Members) (o : Option Keyword) → under k keywords ≡ o → all_ask (entries ns) ≡ all_ask_below (entries ms)
        → all_ask (entries (with_member (trimmed_as (option_and_then (form_in root) o) v (value_trims v)) k ns)) ≡ (asks_below (option_map_or (λ q. assertion R b q v) o nothing) && all_ask_below (entries ms))
    one_alike root k v ns ms None e h = no_keyword k v ns ms None e refl refl h
    one_alike false k v ns ms (Some keyword.Schema) e h = no_keyword k v ns ms (Some keyword.Schema) e refl refl h
    one_alike false k v ns ms (Some keyword.Defs) e h = no_keyword k v ns ms (Some keyword.Defs) e refl refl h
    one_alike true k v ns ms (Some keyword.Schema) e h = stands_alike k v ns ms keyword.Schema e h false refl
    one_alike true k v ns ms (Some keyword.Defs) e h = stands_alike k v ns ms keyword.Defs e h (is_kept (keeping (form_of keyword.Defs)) v) refl
    one_alike root k v ns ms (Some w) e h = stands_alike k v ns ms w e h (is_kept (keeping (form_of w)) v) refl

    all_alike : (root : Bool) (ms : Members) → all_ask (entries (trimmed_members root ms)) ≡ all_ask_below (entries ms)
    all_alike root no_members = refl
    all_alike root (member k v ms) = one_alike root k v (trimmed_members root ms) ms (under k keywords) refl (all_alike root ms)

  -- a schema, trimmed and not
  schema_alike : (s : Document) → is_satisfied here inside (constraint_of R' (trimmed false s)) x (opened x) ≡ is_satisfied here_below inside_below (constraint_of R s) x (opened x)
  schema_alike null = refl
  schema_alike (boolean true) = refl
  schema_alike (boolean false) = refl
  schema_alike (integer z) = refl
  schema_alike (text t) = refl
  schema_alike (list ds) = refl
  schema_alike (object ms) = all_alike (entries (trimmed_members false ms)) (entries ms) (properties_trimmed false ms) (places_trimmed false ms) false ms

-- ---- the root: `$schema` is put in

-- what is gathered from the keywords one by one, and takes nothing from `$schema`
module _ {B : Type 0} (F : List (Entry Document) → B) (g : Entry Document → B → B) (more : (e : Entry Document) (es : List (Entry Document)) → F (e ∷ es) ≡ g e (F es))
    (silent : (v : Document) (b : B) → g (codes "$schema", v) b ≡ b) where
  unseen : (d : Document) (ms : Members) → F (entries (member (codes "$schema") d ms)) ≡ F (entries ms)
  unseen d ms = more (codes "$schema", d) (entries ms) ∙ silent d (F (entries ms))

  put_by_order : (m : List ℕ) (d e : Document) (ms : Members) → F (entries (put (codes "$schema") d ms)) ≡ F (entries ms)
      → (o : Ordering) → slice_cmp nat_cmp (codes "$schema") m ≡ o
      → F (entries (match_ordering o (member (codes "$schema") d (member m e ms)) (member m d ms) (member m e (put (codes "$schema") d ms)))) ≡ F (entries (member m e ms))
  put_by_order m d e ms rest Less c = unseen d (member m e ms)
  put_by_order m d e ms rest Equal c =
      let equal : codes "$schema" ≡ m = (bytes_eq-Decides (codes "$schema") m).0 (sym (is_eq-slice_cmp (codes "$schema") m) ∙ ap is_eq c) in
      subst (λ n. F (entries (member n d ms)) ≡ F (entries (member n e ms))) equal (unseen d ms ∙ sym (unseen e ms))
  put_by_order m d e ms rest Greater c = more (m, e) (entries (put (codes "$schema") d ms)) ∙ ap (g (m, e)) rest ∙ sym (more (m, e) (entries ms))

  all_put : (d : Document) (ms : Members) → F (entries (put (codes "$schema") d ms)) ≡ F (entries ms)
  all_put d no_members = unseen d no_members
  all_put d (member m e ms) = put_by_order m d e ms (all_put d ms) (slice_cmp nat_cmp (codes "$schema") m) refl

abbrev rooted : Members → List (Entry Document)
rooted ms = entries (put (codes "$schema") (text dialect) (trimmed_members true ms))

properties_rooted : (ms : Members) → property_keys (rooted ms) ≡ property_keys (entries ms)
properties_rooted ms =
    ap (map (λ e. e.0)) (all_put (listed_under (codes "properties")) (λ e b. (if bytes_eq (codes "properties") e.0 then entries_of e.1 else []) ++ b) (λ e es. refl) (λ v b. refl) (text dialect) (trimmed_members true ms))
    ∙ properties_trimmed true ms

places_rooted : (ms : Members) → places_taken (rooted ms) ≡ places_taken (entries ms)
places_rooted ms =
    all_put places_taken (λ e b. if bytes_eq (codes "prefixItems") e.0 then max (length (elements_of e.1)) b else b) (λ e es. refl) (λ v b. refl) (text dialect) (trimmed_members true ms)
    ∙ places_trimmed true ms

root_alike : (ms : Members) (here : Document → Bool) (inside : Document → Document → Bool) (x : Document)
    → is_satisfied here inside (constraint_of (trim (object ms)) (trim (object ms))) x (opened x) ≡ is_satisfied (λ p. here (trimmed false p)) (λ y p. inside y (trimmed false p)) (constraint_of (object ms) (object ms)) x (opened x)
root_alike ms here inside x =
    all_put (λ es. list_all (λ a. holds here inside a x (opened x)) (map (assertion_at (trim (object ms)) (rooted ms)) es)) (λ e b. holds here inside (assertion_at (trim (object ms)) (rooted ms) e) x (opened x) && b)
    (λ e es. refl) (λ v b. refl) (text dialect) (trimmed_members true ms)
    ∙ all_alike (object ms) (trim (object ms)) (defined_trimmed (object ms)) here inside x (rooted ms) (entries ms) (properties_rooted ms) (places_rooted ms) true ms

-- what the trimmed schemas validate is a validity of the schemas
trimmed_validity : (d : Document) (W : Document → Document → Bool) → IsValidity (trim d) W → IsValidity d (λ s x. W (trimmed false s) x)
trimmed_validity d W w s x = w (trimmed false s) x ∙ schema_alike d (trim d) (defined_trimmed d) (λ p. W p x) (λ y p. W p y) x s

asked : (V V' : Document → Document → Bool) → ((s x : Document) → V s x ≡ V' s x) → (a : Constraint Document Document) (x : Document)
    → is_satisfied (λ p. V p x) (λ y p. V p y) a x (opened x) ≡ is_satisfied (λ p. V' p x) (λ y p. V' p y) a x (opened x)
asked V V' e a x = λ i. is_satisfied (λ p. e p x i) (λ y p. e p y i) a x (opened x)

at_root : (d : Document) (V W : Document → Document → Bool) → IsValidity d V → IsValidity (trim d) W → ((s x : Document) → V s x ≡ W (trimmed false s) x) → (x : Document) → V d x ≡ W (trim d) x
at_root (object ms) V W v w e x =
    v (object ms) x ∙ asked V (λ s x. W (trimmed false s) x) e (constraint_of (object ms) (object ms)) x ∙ sym (root_alike ms (λ p. W p x) (λ y p. W p y) x) ∙ sym (w (trim (object ms)) x)
at_root d V W v w e x = e d x

-- a schema document in which no definition reaches itself validates what the trimmed one validates
pub keeps_validity : (d : Document) → NoLoop d → KeepsValidity d
keeps_validity d none V W v w = at_root d V W v w ((one_meaning d none).only V (λ s x. W (trimmed false s) x) v (trimmed_validity d W w))

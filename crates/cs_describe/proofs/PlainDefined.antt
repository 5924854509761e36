-- What a schema document without notes has under its keywords, and which definitions it has.
use Rattle.std.proofs.Common.{◌≡◌, ◌⊎◌, inl, inr, ℕ, suc, max, length, Bool, true, false, List, [], ◌∷◌, ◌++◌, map, Some, option_map, bytes_eq, codes, refl, sym, ap, ap₂, ◌∙◌, subst, if◌then◌else◌}
use Rattle.std.proofs.lemmas.List.{map-append}
use Rattle.std.proofs.lemmas.Slice.Eq.{bytes_eq-Decides}
use Rattle.cs_document.specs.Document.{Document, null, boolean, integer, text, list, object, Documents, no_documents, document, Members, no_members, member, Entry, elements, entries, under}
use Rattle.cs_profile.specs.Keywords.{elements_of, entries_of, listed_under, defined}
use Rattle.cs_profile.specs.Constraint.{places_taken}
use Rattle.cs_profile.specs.Shapes.{form_at}
use Rattle.cs_profile.specs.declared.keyword.Form.TheVariants as form
use Rattle.cs_describe.specs.Plain.{plain_by, schema_without, members_without, list_without, elements_without, map_without, named_without, values_without, value_without, without, LeavesOutNotes}

-- what holds of the names of notes holds of a note
pub of_note : (P : List ℕ → Type 0) → P (codes "description") → P (codes "default") → (k : List ℕ) → (codes "description" ≡ k) ⊎ (codes "default" ≡ k) → P k
of_note P description default k (inl e) = subst P e description
of_note P description default k (inr e) = subst P e default

module _ (left_out : List ℕ → Bool) (notes : LeavesOutNotes left_out) where
  other_than : (key : List ℕ) → bytes_eq key (codes "description") ≡ false → bytes_eq key (codes "default") ≡ false → (k : List ℕ) → left_out k ≡ true → bytes_eq key k ≡ false
  other_than key description default k e = of_note (λ n. bytes_eq key n ≡ false) description default k (notes k e)

  -- ---- elements and entries

  pub elements_plain : (ds : Documents) → elements (elements_without left_out ds) ≡ map (schema_without left_out) (elements ds)
  elements_plain no_documents = refl
  elements_plain (document d ds) = ap (λ (es : List Document). schema_without left_out d ∷ es) (elements_plain ds)

  as_long : (ds : Documents) → length (elements (elements_without left_out ds)) ≡ length (elements ds)
  as_long no_documents = refl
  as_long (document d ds) = ap suc (as_long ds)

  as_long_in : (v : Document) → length (elements_of (list_without left_out v)) ≡ length (elements_of v)
  as_long_in null = refl
  as_long_in (boolean b) = refl
  as_long_in (integer z) = refl
  as_long_in (text t) = refl
  as_long_in (list ds) = as_long ds
  as_long_in (object ms) = refl

  abbrev pub below : Entry Document → Entry Document
  below e = (e.0, schema_without left_out e.1)

  pub entries_plain : (ms : Members) → entries (named_without left_out ms) ≡ map below (entries ms)
  entries_plain no_members = refl
  entries_plain (member k v ms) = ap (λ (es : List (Entry Document)). (k, schema_without left_out v) ∷ es) (entries_plain ms)

  entries_plain_of : (v : Document) → entries_of (map_without left_out v) ≡ map below (entries_of v)
  entries_plain_of null = refl
  entries_plain_of (boolean b) = refl
  entries_plain_of (integer z) = refl
  entries_plain_of (text t) = refl
  entries_plain_of (list ds) = refl
  entries_plain_of (object ms) = entries_plain ms

  keys_below : (es : List (Entry Document)) → map (λ e. e.0) (map below es) ≡ map (λ e. e.0) es
  keys_below [] = refl
  keys_below (e ∷ es) = ap (λ (ks : List (List ℕ)). e.0 ∷ ks) (keys_below es)

  -- ---- a keyword whose value is an object of schemas

  module _ (root : Bool) (key : List ℕ) (named : form_at root key ≡ Some form.NamedSchemas) (other : (k : List ℕ) → left_out k ≡ true → bytes_eq key k ≡ false) where
    kept_listed : (k : List ℕ) (v : Document) (ns : Members) (es : List (Entry Document)) → listed_under key (entries ns) ≡ map below es → (t : Bool) → bytes_eq key k ≡ t
        → listed_under key (entries (member k (value_without left_out root k v) ns)) ≡ map below ((if t then entries_of v else []) ++ es)
    kept_listed k v ns es h false e = ap (λ b. (if b then entries_of (value_without left_out root k v) else []) ++ listed_under key (entries ns)) e ∙ h
    kept_listed k v ns es h true e =
        let value : entries_of (value_without left_out root k v) ≡ map below (entries_of v) =
        subst (λ n. entries_of (value_without left_out root n v) ≡ map below (entries_of v)) ((bytes_eq-Decides key k).0 e) (ap (λ o. entries_of (plain_by o (values_without left_out v))) named ∙ entries_plain_of v) in
        ap (λ b. (if b then entries_of (value_without left_out root k v) else []) ++ listed_under key (entries ns)) e ∙ ap₂ (λ xs ys. xs ++ ys) value h ∙ sym (map-append below (entries_of v) es)

    one_listed : (k : List ℕ) (v : Document) (ns : Members) (es : List (Entry Document)) → listed_under key (entries ns) ≡ map below es → (t : Bool) → left_out k ≡ t
        → listed_under key (entries (if t then ns else member k (value_without left_out root k v) ns)) ≡ map below ((if bytes_eq key k then entries_of v else []) ++ es)
    one_listed k v ns es h false e = kept_listed k v ns es h (bytes_eq key k) refl
    one_listed k v ns es h true e =
        h ∙ sym (ap (λ b. map below ((if b then entries_of v else []) ++ es)) (other k e))

    pub listed_plain : (ms : Members) → listed_under key (entries (members_without left_out root ms)) ≡ map below (listed_under key (entries ms))
    listed_plain no_members = refl
    listed_plain (member k v ms) = one_listed k v (members_without left_out root ms) (listed_under key (entries ms)) (listed_plain ms) (left_out k) refl

  -- the keys of `properties`
  abbrev pub property_keys : List (Entry Document) → List (List ℕ)
  property_keys es = map (λ e. e.0) (listed_under (codes "properties") es)

  pub properties_plain : (root : Bool) (ms : Members) → property_keys (entries (members_without left_out root ms)) ≡ property_keys (entries ms)
  properties_plain root ms = ap (map (λ e. e.0)) (listed_plain root (codes "properties") refl (other_than (codes "properties") refl refl) ms) ∙ keys_below (listed_under (codes "properties") (entries ms))

  -- ---- places of `prefixItems`

  kept_place : (root : Bool) (k : List ℕ) (v : Document) (ns ms : Members) → places_taken (entries ns) ≡ places_taken (entries ms) → (t : Bool) → bytes_eq (codes "prefixItems") k ≡ t
      → places_taken (entries (member k (value_without left_out root k v) ns)) ≡ places_taken (entries (member k v ms))
  kept_place root k v ns ms h true e =
      subst (λ n. places_taken (entries (member n (value_without left_out root n v) ns)) ≡ places_taken (entries (member n v ms))) ((bytes_eq-Decides (codes "prefixItems") k).0 e)
      (ap₂ max (as_long_in v) h)
  kept_place root k v ns ms h false e = rw e h

  one_place : (root : Bool) (k : List ℕ) (v : Document) (ns ms : Members) → places_taken (entries ns) ≡ places_taken (entries ms) → (t : Bool) → left_out k ≡ t
      → places_taken (entries (if t then ns else member k (value_without left_out root k v) ns)) ≡ places_taken (entries (member k v ms))
  one_place root k v ns ms h false e = kept_place root k v ns ms h (bytes_eq (codes "prefixItems") k) refl
  one_place root k v ns ms h true e = of_note (λ n. places_taken (entries ns) ≡ places_taken (entries (member n v ms))) h h k (notes k e)

  pub places_plain : (root : Bool) (ms : Members) → places_taken (entries (members_without left_out root ms)) ≡ places_taken (entries ms)
  places_plain root no_members = refl
  places_plain root (member k v ms) = one_place root k v (members_without left_out root ms) ms (places_plain root ms) (left_out k) refl

  -- ---- definitions

  under_below : (n : List ℕ) (es : List (Entry Document)) → under n (map below es) ≡ option_map (schema_without left_out) (under n es)
  under_below n [] = refl
  under_below n (e ∷ es) = by_test (bytes_eq n e.0) (under_below n es)
    where
      by_test : (t : Bool) → under n (map below es) ≡ option_map (schema_without left_out) (under n es) → (if t then Some (schema_without left_out e.1) else under n (map below es)) ≡ option_map (schema_without left_out) (if t then Some e.1 else under n es)
      by_test true r = refl
      by_test false r = r

  pub defined_plain : (R : Document) (n : List ℕ) → defined (without left_out R) n ≡ option_map (schema_without left_out) (defined R n)
  defined_plain null n = refl
  defined_plain (boolean b) n = refl
  defined_plain (integer z) n = refl
  defined_plain (text s) n = refl
  defined_plain (list ds) n = refl
  defined_plain (object ms) n = ap (under n) (listed_plain true (codes "$defs") refl (other_than (codes "$defs") refl refl) ms) ∙ under_below n (listed_under (codes "$defs") (entries ms))

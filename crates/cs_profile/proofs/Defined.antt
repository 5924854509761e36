-- In a document without a fault each name that a definition refers to directly is defined.
use Rattle.std.proofs.Common.{◌≡◌, ℕ, suc, Bool, true, false, List, [], ◌∷◌, ◌++◌, Option, Some, None, is_some, bytes_eq, codes, refl, sym, ap, ◌∙◌, subst, if◌then◌else◌}
use Rattle.std.proofs.lemmas.Slice.Eq.{bytes_eq-Decides}
use Rattle.std.specs.Prelude.{option_to_list}
use Rattle.std.specs.Option.{option_and_then}
use Rattle.std.specs.List.{AllByRecursion as Each}
use Rattle.cs_document.specs.Document.{Document, null, boolean, integer, text, list, object, Documents, no_documents, document, Members, no_members, member, Entry, entries, under}
use Rattle.cs_document.proofs.Each.{each_append}
use Rattle.cs_profile.specs.Keywords.{keywords, reference_start, text_after, entries_of, listed_under, defined}
use Rattle.cs_profile.specs.declared.keyword.Keyword.{Keyword}
use Rattle.cs_profile.specs.declared.keyword.Keyword.TheVariants as keyword
use Rattle.cs_profile.specs.declared.keyword.Vocabulary.{Vocabulary}
use Rattle.cs_profile.specs.Loops.{name_in, by_keyword, direct_names, keyword_names, list_names, each_names}
use Rattle.cs_profile.specs.ValueNames.{value_names}
use Rattle.cs_profile.specs.Shapes.{form_at, form_in, form_of, stands, by_form}
use Rattle.cs_profile.specs.Places.{at_key, at_index}
use Rattle.cs_profile.specs.Profile.{Visit, undefined, keyword_at, first, fault_of, form_fault, visits, member_visits, list_visits, element_visits, map_visits, named_visits, within, unless_defined, reference_fault, undefined_at, walk_fault, name_fault}
use Rattle.cs_profile.specs.Values.{keyword_visits, value_visits}
use Rattle.cs_profile.proofs.Faultless.{parted, or_else_none}
use Rattle.cs_profile.proofs.Names.{name_of-named}
use Rattle.cs_profile.proofs.Taken.{taken_none}

module _ (taken : Vocabulary) (known : List ℕ → Bool) where
  -- the walk meets no fault, and no reference to a name that isn't known
  abbrev pub Clean : List Visit → Type 0
  Clean vs = (first (fault_of taken) vs ≡ None) × (first (undefined_at known) vs ≡ None)

  abbrev pub AllKnown : List (List ℕ) → Type 0
  AllKnown ns = Each (λ n. known n ≡ true) ns

  clean_parts : (xs ys : List Visit) → Clean (xs ++ ys) → Clean xs × Clean ys
  clean_parts xs ys h =
      let faults = parted (fault_of taken) xs ys h.0 in
      let names = parted (undefined_at known) xs ys h.1 in
      ((faults.0, names.0), (faults.1, names.1))

  clean_first : (x : Visit) (xs : List Visit) → Clean (x ∷ xs) → ((fault_of taken x ≡ None) × (undefined_at known x ≡ None)) × Clean xs
  clean_first x xs h =
      let faults = or_else_none (fault_of taken x) (first (fault_of taken) xs) h.0 in
      let names = or_else_none (undefined_at known x) (first (undefined_at known) xs) h.1 in
      ((faults.0, names.0), (faults.1, names.1))

  -- ---- a reference

  known_named : (place : List ℕ) (o : Option (List ℕ)) → unless_defined known place o ≡ None → AllKnown (option_to_list o)
  known_named place None h = tt
  known_named place (Some n) h = (by (known n) refl h, tt)
    where
      by : (b : Bool) → known n ≡ b → (if b then None else Some (undefined place n)) ≡ None → b ≡ true
      by true e h = refl
      by false e h = cc

  known_in : (place : List ℕ) (v : Document) → reference_fault known place v ≡ None → AllKnown (name_in v)
  known_in place null h = tt
  known_in place (boolean b) h = tt
  known_in place (integer z) h = tt
  known_in place (text t) h = known_named place (text_after reference_start t) h
  known_in place (list ds) h = tt
  known_in place (object ms) h = tt

  known_reference : (place k : List ℕ) (v : Document) → under k keywords ≡ Some keyword.Ref → undefined_at known (keyword_at false place k v) ≡ None → AllKnown (name_in v)
  known_reference place k v e h =
      known_in place v (subst (λ n. undefined_at known (keyword_at false place n v) ≡ None) (sym (name_of-named k keyword.Ref e)) h)

  -- ---- what is inside a keyword's value

  clean_inside : (place k : List ℕ) (v : Document) (w : Keyword) → under k keywords ≡ Some w → Clean (keyword_visits false place k v) → Clean (by_form (form_of w) (value_visits (at_key place k) v))
  clean_inside place k v w e h = by (stands false w) refl
    where
      parts : ((fault_of taken (keyword_at false place k v) ≡ None) × (undefined_at known (keyword_at false place k v) ≡ None)) × Clean (within (form_at false k) (value_visits (at_key place k) v))
      parts = clean_first (keyword_at false place k v) (within (form_at false k) (value_visits (at_key place k) v)) h

      by : (b : Bool) → stands false w ≡ b → Clean (by_form (form_of w) (value_visits (at_key place k) v))
      by true s =
          let is : form_at false k ≡ Some (form_of w) = ap (option_and_then (form_in false)) e ∙ ap (λ b. if b then Some (form_of w) else None) s in
          subst (λ f. Clean (within f (value_visits (at_key place k) v))) is parts.1
      by false s =
          let is : form_at false k ≡ None = ap (option_and_then (form_in false)) e ∙ ap (λ b. if b then Some (form_of w) else None) s in
          let none : form_fault place k v None ≡ None = subst (λ f. form_fault place k v f ≡ None) (taken_none taken false k is) parts.0.0 in cc

  known_at : (place k : List ℕ) (v : Document) (o : Option Keyword) → under k keywords ≡ o
      → (Clean (visits false (at_key place k) v) → AllKnown (direct_names v)) → (Clean (list_visits (at_key place k) v) → AllKnown (list_names v))
      → Clean (keyword_visits false place k v) → AllKnown (by_keyword o (value_names v))
  known_at place k v (Some keyword.Ref) e itself elements h =
      known_reference place k v e (clean_first (keyword_at false place k v) (within (form_at false k) (value_visits (at_key place k) v)) h).0.1
  known_at place k v (Some keyword.Not) e itself elements h = itself (clean_inside place k v keyword.Not e h)
  known_at place k v (Some keyword.AllOf) e itself elements h = elements (clean_inside place k v keyword.AllOf e h)
  known_at place k v (Some keyword.AnyOf) e itself elements h = elements (clean_inside place k v keyword.AnyOf e h)
  known_at place k v _ e itself elements h = tt

  mutual
    pub all_known : (place : List ℕ) (d : Document) → Clean (visits false place d) → AllKnown (direct_names d)
    all_known place null h = tt
    all_known place (boolean b) h = tt
    all_known place (integer z) h = tt
    all_known place (text s) h = tt
    all_known place (list ds) h = tt
    all_known place (object ms) h = known_in_members place ms h

    known_in_members : (place : List ℕ) (ms : Members) → Clean (member_visits false place ms) → AllKnown (keyword_names ms)
    known_in_members place no_members h = tt
    known_in_members place (member k v ms) h =
        let parts = clean_parts (keyword_visits false place k v) (member_visits false place ms) h in
        each_append (λ n. known n ≡ true) (by_keyword (under k keywords) (value_names v)) (keyword_names ms)
        (known_at place k v (under k keywords) refl (all_known (at_key place k) v) (known_in_list (at_key place k) v) parts.0) (known_in_members place ms parts.1)

    known_in_list : (place : List ℕ) (d : Document) → Clean (list_visits place d) → AllKnown (list_names d)
    known_in_list place null h = tt
    known_in_list place (boolean b) h = tt
    known_in_list place (integer z) h = tt
    known_in_list place (text s) h = tt
    known_in_list place (list ds) h = known_in_elements place 0 ds h
    known_in_list place (object ms) h = tt

    known_in_elements : (place : List ℕ) (i : ℕ) (ds : Documents) → Clean (element_visits place i ds) → AllKnown (each_names ds)
    known_in_elements place i no_documents h = tt
    known_in_elements place i (document d ds) h =
        let parts = clean_parts (visits false (at_index place i) d) (element_visits place (suc i) ds) h in
        each_append (λ n. known n ≡ true) (direct_names d) (each_names ds) (all_known (at_index place i) d parts.0) (known_in_elements place (suc i) ds parts.1)

  -- ---- the definitions of the root

  abbrev KnownAt : Entry Document → Type 0
  KnownAt e = AllKnown (direct_names e.1)

  known_in_named : (place : List ℕ) (ms : Members) → Clean (named_visits place ms) → Each KnownAt (entries ms)
  known_in_named place no_members h = tt
  known_in_named place (member k v ms) h =
      let parts = clean_parts (visits false (at_key place k) v) (named_visits place ms) h in
      (all_known (at_key place k) v parts.0, known_in_named place ms parts.1)

  known_in_map : (place : List ℕ) (d : Document) → Clean (map_visits place d) → Each KnownAt (entries_of d)
  known_in_map place null h = tt
  known_in_map place (boolean b) h = tt
  known_in_map place (integer z) h = tt
  known_in_map place (text s) h = tt
  known_in_map place (list ds) h = tt
  known_in_map place (object ms) h = known_in_named place ms h

  known_under : (place k : List ℕ) (v : Document) (t : Bool) → bytes_eq (codes "$defs") k ≡ t → Clean (keyword_visits true place k v) → Each KnownAt (if t then entries_of v else [])
  known_under place k v false e h = tt
  known_under place k v true e h =
      let is = (bytes_eq-Decides (codes "$defs") k).0 e in
      let mine : Clean (keyword_visits true place (codes "$defs") v) = subst (λ n. Clean (keyword_visits true place n v)) (sym is) h in
      known_in_map (at_key place (codes "$defs")) v (clean_first (keyword_at true place (codes "$defs") v) (map_visits (at_key place (codes "$defs")) v) mine).1

  known_in_definitions : (place : List ℕ) (ms : Members) → Clean (member_visits true place ms) → Each KnownAt (listed_under (codes "$defs") (entries ms))
  known_in_definitions place no_members h = tt
  known_in_definitions place (member k v ms) h =
      let parts = clean_parts (keyword_visits true place k v) (member_visits true place ms) h in
      each_append KnownAt (if bytes_eq (codes "$defs") k then entries_of v else []) (listed_under (codes "$defs") (entries ms)) (known_under place k v (bytes_eq (codes "$defs") k) refl parts.0) (known_in_definitions place ms parts.1)

  known_root : (R : Document) → Clean (visits true [] R) → Each KnownAt (listed_under (codes "$defs") (entries_of R))
  known_root null h = tt
  known_root (boolean b) h = tt
  known_root (integer z) h = tt
  known_root (text s) h = tt
  known_root (list ds) h = tt
  known_root (object ms) h = known_in_definitions [] ms h

found_each : (P : Document → Type 0) (n : List ℕ) (es : List (Entry Document)) (s : Document) → Each (λ e. P e.1) es → under n es ≡ Some s → P s
found_each P n [] s h e = cc
found_each P n (f ∷ es) s h e = by (bytes_eq n f.0) (found_each P n es s h.1) e
  where
    by : (b : Bool) → (under n es ≡ Some s → P s) → (if b then Some f.1 else under n es) ≡ Some s → P s
    by true next e = let same : f.1 ≡ s = cc in subst P same h.0
    by false next e = next e

-- each name that a definition refers to directly is defined
pub names_defined : (taken : Vocabulary) (R : Document) → walk_fault taken R ≡ None → name_fault R ≡ None → (n : List ℕ) (s : Document) → defined R n ≡ Some s → Each (λ m. is_some (defined R m) ≡ true) (direct_names s)
names_defined taken R shaped named n s e =
    let known : List ℕ → Bool = λ m. is_some (defined R m) in
    found_each (λ d. AllKnown taken known (direct_names d)) n (listed_under (codes "$defs") (entries_of R)) s (known_root taken known R (shaped, named)) e

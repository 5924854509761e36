-- What trimming leaves as it is: the names that schemas refer to, and so the loops, and the references to names that are not defined.
use Rattle.std.proofs.Common.{◌≡◌, ℕ, suc, Bool, true, false, List, [], ◌++◌, Option, Some, None, option_map, is_some, Ordering, Less, Equal, Greater, nat_cmp, bytes_eq, is_eq, codes, refl, sym, ap, ap₂, ◌∙◌, subst, if◌then◌else◌}
use Rattle.std.proofs.lemmas.Map.Text.{is_eq-slice_cmp}
use Rattle.std.proofs.lemmas.Slice.Eq.{bytes_eq-Decides}
use Rattle.std.specs.Cmp.Lexicographic.{slice_cmp}
use Rattle.std.specs.List.{list_any}
use Rattle.std.specs.Option.{option_and_then, option_map_or}
use Rattle.std.specs.Ordering.{match_ordering}
use Rattle.std.specs.Prelude.{IsTrue}
use Rattle.cs_graph.specs.Chains.{IsClosed, NoCycle}
use Rattle.cs_document.specs.Document.{Document, null, boolean, integer, text, list, object, Documents, no_documents, document, Members, no_members, member, under, put}
use Rattle.cs_profile.specs.Keywords.{keywords, defined}
use Rattle.cs_profile.specs.declared.keyword.Keyword.{Keyword}
use Rattle.cs_profile.specs.declared.keyword.Keyword.TheVariants as keyword
use Rattle.cs_profile.specs.declared.keyword.Vocabulary.{Vocabulary}
use Rattle.cs_profile.specs.declared.keyword.Form.{Form}
use Rattle.cs_profile.specs.declared.keyword.Form.TheVariants as form
use Rattle.cs_profile.specs.declared.fault.SchemaFault.{SchemaFault}
use Rattle.cs_profile.specs.declared.fault.SchemaFault.TheVariants as fault
use Rattle.cs_profile.specs.Loops.{ByReach, by_keyword, direct_names, keyword_names, list_names, each_names, NoLoop}
use Rattle.cs_profile.specs.ValueNames.{value_names}
use Rattle.cs_profile.specs.Shapes.{form_at, form_in, keeping, is_kept, dialect}
use Rattle.cs_profile.specs.Places.{at_key, at_index}
use Rattle.cs_profile.specs.Profile.{Fault, Visit, first, or_else, undefined_at, reference_fault, keyword_at, visits, member_visits, list_visits, element_visits, map_visits, named_visits, within, walk_fault, name_fault}
use Rattle.cs_profile.specs.Values.{keyword_visits, value_visits, trimmed_value, value_trims}
use Rattle.cs_profile.specs.Refusal.{IsLeastLoop, IsLoopRefusal, IsRefusal}
use Rattle.cs_profile.specs.Trim.{trim, trimmed, trimmed_members, trimmed_list, trimmed_elements, trimmed_map, trimmed_named, trimmed_as, with_member}
use Rattle.cs_profile.proofs.Faultless.{left, inside, faultless_members}
use Rattle.cs_profile.proofs.Profiles.{defined_trimmed, is_some-map, faultless_put}
use Rattle.cs_profile.proofs.Walks.{first-append}

-- ---- the names that a schema refers to directly

no_name : (k : List ℕ) (o : Option Keyword) → under k keywords ≡ o → ((names : ByReach) → by_keyword o names ≡ []) → (u : Option Document) (ns : Members) → keyword_names (with_member u k ns) ≡ keyword_names ns
no_name k o e none None ns = refl
no_name k o e none (Some v) ns = ap (λ ms. ms ++ keyword_names ns) (ap (λ p. by_keyword p (value_names v)) e ∙ none (value_names v))

one_named : (root : Bool) (k : List ℕ) (v : Document) (ns ms : Members) (o : Option Keyword) → under k keywords ≡ o
    → direct_names (trimmed false v) ≡ direct_names v → list_names (trimmed_list v) ≡ list_names v → keyword_names ns ≡ keyword_names ms
    → keyword_names (with_member (trimmed_as (option_and_then (form_in root) o) v (value_trims v)) k ns) ≡ by_keyword o (value_names v) ++ keyword_names ms
one_named root k v ns ms (Some keyword.Ref) e itself elements h = ap₂ (λ xs ys. xs ++ ys) (ap (λ p. by_keyword p (value_names v)) e) h
one_named root k v ns ms (Some keyword.Not) e itself elements h = ap₂ (λ xs ys. xs ++ ys) (ap (λ p. by_keyword p (value_names (trimmed false v))) e ∙ itself) h
one_named root k v ns ms (Some keyword.AllOf) e itself elements h = ap₂ (λ xs ys. xs ++ ys) (ap (λ p. by_keyword p (value_names (trimmed_list v))) e ∙ elements) h
one_named root k v ns ms (Some keyword.AnyOf) e itself elements h = ap₂ (λ xs ys. xs ++ ys) (ap (λ p. by_keyword p (value_names (trimmed_list v))) e ∙ elements) h
one_named root k v ns ms o e itself elements h = no_name k o e (λ names. refl) (trimmed_as (option_and_then (form_in root) o) v (value_trims v)) ns ∙ h

mutual
  pub names_trimmed : (root : Bool) (d : Document) → direct_names (trimmed root d) ≡ direct_names d
  names_trimmed root null = refl
  names_trimmed root (boolean b) = refl
  names_trimmed root (integer z) = refl
  names_trimmed root (text s) = refl
  names_trimmed root (list ds) = refl
  names_trimmed root (object ms) = names_in_members root ms

  names_in_members : (root : Bool) (ms : Members) → keyword_names (trimmed_members root ms) ≡ keyword_names ms
  names_in_members root no_members = refl
  names_in_members root (member k v ms) =
      one_named root k v (trimmed_members root ms) ms (under k keywords) refl (names_trimmed false v) (names_in_list v) (names_in_members root ms)

  names_in_list : (d : Document) → list_names (trimmed_list d) ≡ list_names d
  names_in_list null = refl
  names_in_list (boolean b) = refl
  names_in_list (integer z) = refl
  names_in_list (text s) = refl
  names_in_list (list ds) = names_in_elements ds
  names_in_list (object ms) = refl

  names_in_elements : (ds : Documents) → each_names (trimmed_elements ds) ≡ each_names ds
  names_in_elements no_documents = refl
  names_in_elements (document d ds) = ap₂ (λ xs ys. xs ++ ys) (names_trimmed false d) (names_in_elements ds)

-- ---- the first reference to what is not known

module _ (known : List ℕ → Bool) where
  abbrev met : List Visit → Option Fault
  met vs = first (undefined_at known) vs

  both : (xs xs' ys ys' : List Visit) → met xs ≡ met xs' → met ys ≡ met ys' → met (xs ++ ys) ≡ met (xs' ++ ys')
  both xs xs' ys ys' g h = first-append (undefined_at known) xs ys ∙ ap₂ or_else g h ∙ sym (first-append (undefined_at known) xs' ys')

  inside_alike : (f : Form) (place : List ℕ) (v : Document)
      → met (visits false place (trimmed false v)) ≡ met (visits false place v)
      → met (list_visits place (trimmed_list v)) ≡ met (list_visits place v)
      → met (map_visits place (trimmed_map v)) ≡ met (map_visits place v)
      → met (inside f place (left f v)) ≡ met (inside f place v)
  inside_alike form.Schema place v a b c = a
  inside_alike form.Schemas place v a b c = b
  inside_alike form.NamedSchemas place v a b c = c
  inside_alike _ place v a b c = refl

  -- what is left out has no reference inside
  none_lost : (f : Form) (place : List ℕ) (v : Document) → is_kept (keeping f) v ≡ false → met (inside f place v) ≡ None
  none_lost form.Schema place v h = cc
  none_lost form.Schemas place v h = cc
  none_lost form.NamedSchemas place (object (member k v ms)) h = cc
  none_lost form.NamedSchemas place _ h = refl
  none_lost _ place v h = refl

  at_member : (root : Bool) (place k : List ℕ) (v : Document) (r : Option Form) → form_at root k ≡ r → (ms : Members)
      → met (member_visits root place (member k v ms)) ≡ or_else (or_else (undefined_at known (keyword_at root place k v)) (met (within r (value_visits (at_key place k) v)))) (met (member_visits root place ms))
  at_member root place k v r e ms =
      first-append (undefined_at known) (keyword_visits root place k v) (member_visits root place ms)
      ∙ ap (λ f. or_else (or_else (undefined_at known (keyword_at root place k v)) (met (within f (value_visits (at_key place k) v)))) (met (member_visits root place ms))) e

  module _ (root : Bool) (place k : List ℕ) (v : Document) (ns ms : Members)
      (itself : met (visits false (at_key place k) (trimmed false v)) ≡ met (visits false (at_key place k) v))
      (elements : met (list_visits (at_key place k) (trimmed_list v)) ≡ met (list_visits (at_key place k) v))
      (members : met (map_visits (at_key place k) (trimmed_map v)) ≡ met (map_visits (at_key place k) v))
      (rest : met (member_visits root place ns) ≡ met (member_visits root place ms)) where
    other : bytes_eq k (codes "$ref") ≡ false → (r : Option Form) → form_at root k ≡ r
        → met (member_visits root place (with_member (trimmed_as r v (value_trims v)) k ns)) ≡ met (member_visits root place (member k v ms))
    other apart None e =
        at_member root place k v None e ns ∙ ap (or_else (or_else (undefined_at known (keyword_at root place k v)) None)) rest ∙ sym (at_member root place k v None e ms)
    other apart (Some f) e = by (is_kept (keeping f) v) refl
      where
        none : (u : Document) → undefined_at known (keyword_at root place k u) ≡ None
        none u = ap (λ t. if t then reference_fault known place u else None) apart

        by : (t : Bool) → is_kept (keeping f) v ≡ t → met (member_visits root place (with_member (if t then Some (left f v) else None) k ns)) ≡ met (member_visits root place (member k v ms))
        by true s =
            at_member root place k (left f v) (Some f) e ns
            ∙ ap₂ or_else (ap₂ or_else (none (left f v) ∙ sym (none v)) (inside_alike f (at_key place k) v itself elements members)) rest
            ∙ sym (at_member root place k v (Some f) e ms)
        by false s =
            rest ∙ sym (at_member root place k v (Some f) e ms ∙ ap (λ o. or_else o (met (member_visits root place ms))) (ap₂ or_else (none v) (none_lost f (at_key place k) v s)))

    one_met : (t : Bool) → bytes_eq k (codes "$ref") ≡ t → met (member_visits root place (with_member (trimmed_value root k v) k ns)) ≡ met (member_visits root place (member k v ms))
    one_met false apart = other apart (form_at root k) refl
    one_met true is =
        subst (λ n. met (member_visits root place (with_member (trimmed_value root n v) n ns)) ≡ met (member_visits root place (member n v ms))) (sym ((bytes_eq-Decides k (codes "$ref")).0 is))
        (at_member root place (codes "$ref") v (Some form.Reference) refl ns
        ∙ ap (or_else (or_else (undefined_at known (keyword_at root place (codes "$ref") v)) None)) rest
        ∙ sym (at_member root place (codes "$ref") v (Some form.Reference) refl ms))

  mutual
    pub undefined_trimmed : (root : Bool) (place : List ℕ) (d : Document) → met (visits root place (trimmed root d)) ≡ met (visits root place d)
    undefined_trimmed root place null = refl
    undefined_trimmed root place (boolean b) = refl
    undefined_trimmed root place (integer z) = refl
    undefined_trimmed root place (text s) = refl
    undefined_trimmed root place (list ds) = refl
    undefined_trimmed root place (object ms) = undefined_in_members root place ms

    undefined_in_members : (root : Bool) (place : List ℕ) (ms : Members) → met (member_visits root place (trimmed_members root ms)) ≡ met (member_visits root place ms)
    undefined_in_members root place no_members = refl
    undefined_in_members root place (member k v ms) =
        one_met root place k v (trimmed_members root ms) ms (undefined_trimmed false (at_key place k) v) (undefined_in_list (at_key place k) v) (undefined_in_map (at_key place k) v)
        (undefined_in_members root place ms) (bytes_eq k (codes "$ref")) refl

    undefined_in_list : (place : List ℕ) (d : Document) → met (list_visits place (trimmed_list d)) ≡ met (list_visits place d)
    undefined_in_list place null = refl
    undefined_in_list place (boolean b) = refl
    undefined_in_list place (integer z) = refl
    undefined_in_list place (text s) = refl
    undefined_in_list place (list ds) = undefined_in_elements place 0 ds
    undefined_in_list place (object ms) = refl

    undefined_in_elements : (place : List ℕ) (i : ℕ) (ds : Documents) → met (element_visits place i (trimmed_elements ds)) ≡ met (element_visits place i ds)
    undefined_in_elements place i no_documents = refl
    undefined_in_elements place i (document d ds) =
        both (visits false (at_index place i) (trimmed false d)) (visits false (at_index place i) d) (element_visits place (suc i) (trimmed_elements ds)) (element_visits place (suc i) ds)
        (undefined_trimmed false (at_index place i) d) (undefined_in_elements place (suc i) ds)

    undefined_in_map : (place : List ℕ) (d : Document) → met (map_visits place (trimmed_map d)) ≡ met (map_visits place d)
    undefined_in_map place null = refl
    undefined_in_map place (boolean b) = refl
    undefined_in_map place (integer z) = refl
    undefined_in_map place (text s) = refl
    undefined_in_map place (list ds) = refl
    undefined_in_map place (object ms) = undefined_in_named place ms

    undefined_in_named : (place : List ℕ) (ms : Members) → met (named_visits place (trimmed_named ms)) ≡ met (named_visits place ms)
    undefined_in_named place no_members = refl
    undefined_in_named place (member k v ms) =
        both (visits false (at_key place k) (trimmed false v)) (visits false (at_key place k) v) (named_visits place (trimmed_named ms)) (named_visits place ms)
        (undefined_trimmed false (at_key place k) v) (undefined_in_named place ms)

  -- `$schema` refers to nothing
  dialect_by_order : (m : List ℕ) (d e : Document) (ms : Members) → met (member_visits true [] (put (codes "$schema") d ms)) ≡ met (member_visits true [] ms)
      → (o : Ordering) → slice_cmp nat_cmp (codes "$schema") m ≡ o
      → met (member_visits true [] (match_ordering o (member (codes "$schema") d (member m e ms)) (member m d ms) (member m e (put (codes "$schema") d ms)))) ≡ met (member_visits true [] (member m e ms))
  dialect_by_order m d e ms rest Less c = refl
  dialect_by_order m d e ms rest Equal c =
      let same : codes "$schema" ≡ m = (bytes_eq-Decides (codes "$schema") m).0 (sym (is_eq-slice_cmp (codes "$schema") m) ∙ ap is_eq c) in
      subst (λ n. met (member_visits true [] (member n d ms)) ≡ met (member_visits true [] (member n e ms))) same refl
  dialect_by_order m d e ms rest Greater c =
      both (keyword_visits true [] m e) (keyword_visits true [] m e) (member_visits true [] (put (codes "$schema") d ms)) (member_visits true [] ms) refl rest

  dialect_put : (d : Document) (ms : Members) → met (member_visits true [] (put (codes "$schema") d ms)) ≡ met (member_visits true [] ms)
  dialect_put d no_members = refl
  dialect_put d (member m e ms) = dialect_by_order m d e ms (dialect_put d ms) (slice_cmp nat_cmp (codes "$schema") m) refl

-- ---- the trimmed root

pub name_fault_trimmed : (d : Document) → name_fault (trim d) ≡ name_fault d
name_fault_trimmed null = refl
name_fault_trimmed (boolean b) = refl
name_fault_trimmed (integer z) = refl
name_fault_trimmed (text s) = refl
name_fault_trimmed (list ds) = refl
name_fault_trimmed (object ms) =
    let d = object ms in
    let known : List ℕ → Bool = λ n. is_some (defined d n) in
    let same : (n : List ℕ) → is_some (defined (trim d) n) ≡ known n = λ n. ap is_some (defined_trimmed d n) ∙ is_some-map (trimmed false) (defined d n) in
    (λ i. first (undefined_at (λ n. same n i)) (visits true [] (trim d))) ∙ dialect_put known (text dialect) (trimmed_members true ms) ∙ undefined_trimmed known true [] d

pub walk_fault_trimmed : (taken : Vocabulary) (d : Document) → walk_fault taken d ≡ None → walk_fault taken (trim d) ≡ None
walk_fault_trimmed taken null h = h
walk_fault_trimmed taken (boolean b) h = h
walk_fault_trimmed taken (integer z) h = h
walk_fault_trimmed taken (text s) h = h
walk_fault_trimmed taken (list ds) h = h
walk_fault_trimmed taken (object ms) h = faultless_put taken (codes "$schema") (text dialect) (trimmed_members true ms) refl (faultless_members taken true [] ms h)

-- the names that the definition of a name refers to directly
abbrev refers_to : Document → List ℕ → List (List ℕ)
refers_to d n = option_map_or direct_names (defined d n) []

abbrev Refers : (List ℕ → List (List ℕ)) → List ℕ → List ℕ → Type 0
Refers to n m = IsTrue (list_any (bytes_eq m) (to n))

mapped_names : (o : Option Document) → option_map_or direct_names (option_map (trimmed false) o) [] ≡ option_map_or direct_names o []
mapped_names None = refl
mapped_names (Some s) = names_trimmed false s

refers_alike : (d : Document) (n : List ℕ) → refers_to (trim d) n ≡ refers_to d n
refers_alike d n = ap (λ o. option_map_or direct_names o []) (defined_trimmed d n) ∙ mapped_names (defined d n)

all_refer_alike : (d : Document) → refers_to (trim d) ≡ refers_to d
all_refer_alike d = λ i n. refers_alike d n i

pub no_loop_trimmed : (d : Document) → NoLoop d → NoLoop (trim d)
no_loop_trimmed d h = subst (λ to. NoCycle (Refers to)) (sym (all_refer_alike d)) h

pub no_loop_untrimmed : (d : Document) → NoLoop (trim d) → NoLoop d
no_loop_untrimmed d h = subst (λ to. NoCycle (Refers to)) (all_refer_alike d) h

pub least_loop_untrimmed : (d : Document) (ns : List (List ℕ)) → IsLeastLoop (trim d) ns → IsLeastLoop d ns
least_loop_untrimmed d ns l = record { loop = subst (λ to. IsClosed (Refers to) ns) (all_refer_alike d) l.loop; distinct = l.distinct; least = l.least }

pub refusal_untrimmed : (taken : Vocabulary) (e : SchemaFault) (d : Document) → walk_fault taken d ≡ None → name_fault d ≡ None → IsLoopRefusal e (trim d) → IsRefusal taken e d
refusal_untrimmed taken fault.OutOfMemory d w n h = tt
refusal_untrimmed taken (fault.Loop ns) d w n h = record { shaped = w; named = n; told = least_loop_untrimmed d _ h }
refusal_untrimmed taken (fault.Keyword p m) d w n h = absurd h
refusal_untrimmed taken (fault.Shape p m) d w n h = absurd h
refusal_untrimmed taken (fault.Reference p m) d w n h = absurd h

-- A schema of the profile without its defaults is one: the walk over it meets no fault where it met none, and its references are the same.
use Rattle.std.proofs.Common.{◌≡◌, ℕ, suc, Bool, true, false, List, [], Option, Some, None, is_some, bytes_eq, codes, refl, sym, ap, ap₂, ◌∙◌, subst, if◌then◌else◌}
use Rattle.std.proofs.lemmas.Slice.Eq.{bytes_eq-Decides}
use Rattle.cs_document.specs.Document.{Document, null, boolean, integer, text, list, object, Documents, no_documents, document, Members, no_members, member}
use Rattle.cs_profile.specs.Keywords.{defined}
use Rattle.cs_profile.specs.Places.{at_key, at_index}
use Rattle.cs_profile.specs.Profile.{Fault, Visit, keyword_at, value_at, first, or_else, within, fault_of, form_fault, shape_fault, undefined_at, reference_fault, visits, member_visits, list_visits, element_visits, map_visits, named_visits, IsSchema}
use Rattle.cs_profile.specs.Shapes.{form_at, taken_at, has_form}
use Rattle.cs_profile.specs.Values.{keyword_visits, value_visits}
use Rattle.cs_profile.specs.declared.keyword.Vocabulary.{Vocabulary}
use Rattle.cs_profile.specs.declared.keyword.Form.{Form}
use Rattle.cs_profile.specs.declared.keyword.Form.TheVariants as form
use Rattle.cs_profile.proofs.Faultless.{parted, joined, or_else_none}
use Rattle.cs_profile.proofs.Taken.{taken_form}
use Rattle.cs_describe.specs.Plain.{as_schema, plain_by, schema_without, members_without, list_without, elements_without, map_without, named_without, values_without, value_without, without, is_default, without_defaults}
use Rattle.cs_describe.proofs.Leaving.{defaults_are_notes}
use Rattle.cs_describe.proofs.PlainLoops.{no_loop_plain}
use Rattle.cs_describe.proofs.StillSchema.{known_plain}

module _ (left_out : List ℕ → Bool) (f : Visit → Option Fault) (truth : (place : List ℕ) → f (value_at place (boolean true)) ≡ None)
    (valued : (root : Bool) (place k : List ℕ) (v : Document) → f (keyword_at root place k v) ≡ None → f (keyword_at root place k (value_without left_out root k v)) ≡ None) where
  abbrev Free : List Visit → Type 0
  Free vs = first f vs ≡ None

  as_free : (place : List ℕ) (ms : Members) → Free (member_visits false place ms) → Free (visits false place (as_schema ms))
  as_free place no_members h = ap (λ o. or_else o None) (truth place)
  as_free place (member k v ms) h = h

  inside_free : (o : Option Form) (place : List ℕ) (v : Document)
      → (Free (visits false place v) → Free (visits false place (schema_without left_out v))) → (Free (list_visits place v) → Free (list_visits place (list_without left_out v)))
      → (Free (map_visits place v) → Free (map_visits place (map_without left_out v)))
      → Free (within o (value_visits place v)) → Free (within o (value_visits place (plain_by o (values_without left_out v))))
  inside_free (Some form.Schema) place v itself elements members h = itself h
  inside_free (Some form.Schemas) place v itself elements members h = elements h
  inside_free (Some form.NamedSchemas) place v itself elements members h = members h
  inside_free _ place v itself elements members h = h

  one_free : (root : Bool) (place k : List ℕ) (v : Document) (ms : Members) (t : Bool)
      → Free (keyword_visits root place k (value_without left_out root k v)) → Free (member_visits root place ms)
      → Free (member_visits root place (if t then ms else member k (value_without left_out root k v) ms))
  one_free root place k v ms true here rest = rest
  one_free root place k v ms false here rest = joined f (keyword_visits root place k (value_without left_out root k v)) (member_visits root place ms) here rest

  mutual
    schema_free : (place : List ℕ) (d : Document) → Free (visits false place d) → Free (visits false place (schema_without left_out d))
    schema_free place (object ms) h = as_free place (members_without left_out false ms) (members_free false place ms h)
    schema_free place null h = h
    schema_free place (boolean b) h = h
    schema_free place (integer z) h = h
    schema_free place (text s) h = h
    schema_free place (list ds) h = h

    members_free : (root : Bool) (place : List ℕ) (ms : Members) → Free (member_visits root place ms) → Free (member_visits root place (members_without left_out root ms))
    members_free root place no_members h = refl
    members_free root place (member k v ms) h =
        let parts = parted f (keyword_visits root place k v) (member_visits root place ms) h in
        let mine = or_else_none (f (keyword_at root place k v)) (first f (within (form_at root k) (value_visits (at_key place k) v))) parts.0 in
        let deeper = inside_free (form_at root k) (at_key place k) v (λ g. schema_free (at_key place k) v g) (λ g. list_free (at_key place k) v g) (λ g. map_free (at_key place k) v g) mine.1 in
        one_free root place k v (members_without left_out root ms) (left_out k) (ap₂ or_else (valued root place k v mine.0) deeper) (members_free root place ms parts.1)

    list_free : (place : List ℕ) (d : Document) → Free (list_visits place d) → Free (list_visits place (list_without left_out d))
    list_free place (list ds) h = elements_free place 0 ds h
    list_free place null h = h
    list_free place (boolean b) h = h
    list_free place (integer z) h = h
    list_free place (text s) h = h
    list_free place (object ms) h = h

    elements_free : (place : List ℕ) (i : ℕ) (ds : Documents) → Free (element_visits place i ds) → Free (element_visits place i (elements_without left_out ds))
    elements_free place i no_documents h = refl
    elements_free place i (document d ds) h =
        let parts = parted f (visits false (at_index place i) d) (element_visits place (suc i) ds) h in
        joined f (visits false (at_index place i) (schema_without left_out d)) (element_visits place (suc i) (elements_without left_out ds))
        (schema_free (at_index place i) d parts.0) (elements_free place (suc i) ds parts.1)

    map_free : (place : List ℕ) (d : Document) → Free (map_visits place d) → Free (map_visits place (map_without left_out d))
    map_free place (object ms) h = named_free place ms h
    map_free place null h = h
    map_free place (boolean b) h = h
    map_free place (integer z) h = h
    map_free place (text s) h = h
    map_free place (list ds) h = h

    named_free : (place : List ℕ) (ms : Members) → Free (named_visits place ms) → Free (named_visits place (named_without left_out ms))
    named_free place no_members h = refl
    named_free place (member k v ms) h =
        let parts = parted f (visits false (at_key place k) v) (named_visits place ms) h in
        joined f (visits false (at_key place k) (schema_without left_out v)) (named_visits place (named_without left_out ms)) (schema_free (at_key place k) v parts.0) (named_free place ms parts.1)

  document_free : (d : Document) → Free (visits true [] d) → Free (visits true [] (without left_out d))
  document_free (object ms) h = members_free true [] ms h
  document_free null h = h
  document_free (boolean b) h = h
  document_free (integer z) h = h
  document_free (text s) h = h
  document_free (list ds) h = h

module _ (left_out : List ℕ → Bool) where
  list_shaped : (v : Document) → has_form form.Schemas (list_without left_out v) ≡ has_form form.Schemas v
  list_shaped null = refl
  list_shaped (boolean b) = refl
  list_shaped (integer z) = refl
  list_shaped (text s) = refl
  list_shaped (list no_documents) = refl
  list_shaped (list (document d ds)) = refl
  list_shaped (object ms) = refl

  map_shaped : (v : Document) → has_form form.NamedSchemas (map_without left_out v) ≡ has_form form.NamedSchemas v
  map_shaped null = refl
  map_shaped (boolean b) = refl
  map_shaped (integer z) = refl
  map_shaped (text s) = refl
  map_shaped (list ds) = refl
  map_shaped (object ms) = refl

  value_shaped : (o : Option Form) (place k : List ℕ) (v : Document) → form_fault place k (plain_by o (values_without left_out v)) o ≡ form_fault place k v o
  value_shaped (Some form.Schemas) place k v = ap (shape_fault place k) (list_shaped v)
  value_shaped (Some form.NamedSchemas) place k v = ap (shape_fault place k) (map_shaped v)
  value_shaped _ place k v = refl

  value_taken : (taken : Vocabulary) (root : Bool) (place k : List ℕ) (v : Document) (t : Option Form) → taken_at taken root k ≡ t
      → form_fault place k (value_without left_out root k v) t ≡ form_fault place k v t
  value_taken taken root place k v None e = refl
  value_taken taken root place k v (Some r) e =
      ap (λ o. form_fault place k (plain_by o (values_without left_out v)) (Some r)) (taken_form taken root k r e) ∙ value_shaped (Some r) place k v

  module _ (known : List ℕ → Bool) where
    reference_same : (root : Bool) (place k : List ℕ) (v : Document) (t : Bool) → bytes_eq k (codes "$ref") ≡ t
        → (if t then reference_fault known place (value_without left_out root k v) else None) ≡ (if t then reference_fault known place v else None)
    reference_same root place k v false e = refl
    reference_same root place k v true e =
        subst (λ m. reference_fault known place (value_without left_out root m v) ≡ reference_fault known place v) (sym ((bytes_eq-Decides k (codes "$ref")).0 e)) refl

pub still_bare : (taken : Vocabulary) (d : Document) → IsSchema taken d → IsSchema taken (without_defaults d)
still_bare taken d h =
    let e = without_defaults d in
    let same : (λ (n : List ℕ). is_some (defined e n)) ≡ (λ n. is_some (defined d n)) = λ i n. known_plain is_default defaults_are_notes d n i in
    let free = document_free is_default (undefined_at (λ n. is_some (defined d n))) (λ place. refl)
    (λ root place k v g. reference_same is_default (λ n. is_some (defined d n)) root place k v (bytes_eq k (codes "$ref")) refl ∙ g) d h.named in record {
      shaped = document_free is_default (fault_of taken) (λ place. refl) (λ root place k v g. value_taken is_default taken root place k v (taken_at taken root k) refl ∙ g) d h.shaped;
      named = subst (λ (known : List ℕ → Bool). first (undefined_at known) (visits true [] e) ≡ None) (sym same) free;
      no_loop = no_loop_plain is_default defaults_are_notes d h.no_loop;
    }

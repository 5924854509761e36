-- A schema of the profile with descriptions is one: the walk over it meets no fault where it met none, and its references are the same.
use Rattle.std.proofs.Common.{◌≡◌, ℕ, suc, Bool, true, false, List, [], Option, Some, None, option_map, is_some, Ordering, Less, Equal, Greater, nat_cmp, bytes_eq, is_eq, codes, String, Global, string_bytes, refl, sym, ap, ap₂, ◌∙◌, subst, if◌then◌else◌}
use Rattle.std.proofs.lemmas.Map.Text.{is_eq-slice_cmp}
use Rattle.std.proofs.lemmas.Slice.Eq.{bytes_eq-Decides}
use Rattle.std.specs.Cmp.Lexicographic.{slice_cmp}
use Rattle.std.specs.Option.{option_and_then}
use Rattle.std.specs.Ordering.{match_ordering}
use Rattle.cs_document.specs.Document.{Document, null, boolean, integer, text, list, object, Documents, no_documents, document, Members, no_members, member, under, put}
use Rattle.cs_profile.specs.Keywords.{keywords, defined}
use Rattle.cs_profile.specs.declared.keyword.Keyword.{Keyword}
use Rattle.cs_profile.specs.declared.keyword.Keyword.TheVariants as keyword
use Rattle.cs_profile.specs.declared.keyword.Vocabulary.{Vocabulary}
use Rattle.cs_profile.specs.declared.keyword.Form.TheVariants as form
use Rattle.cs_profile.specs.Loops.{NoLoop}
use Rattle.cs_profile.specs.Shapes.{form_in, taken_in, has_form}
use Rattle.cs_profile.specs.Places.{at_key, at_index}
use Rattle.cs_profile.specs.Profile.{Fault, Visit, keyword_at, first, or_else, within, fault_of, form_fault, shape_fault, undefined_at, reference_fault, visits, member_visits, list_visits, element_visits, map_visits, named_visits, IsSchema}
use Rattle.cs_profile.specs.Values.{keyword_visits, value_visits}
use Rattle.cs_profile.proofs.Faultless.{parted, joined, or_else_none}
use Rattle.cs_profile.proofs.Profiles.{is_some-map}
use Rattle.cs_describe.specs.declared.notes.Notes.{Notes, out-Notes}
use Rattle.cs_describe.specs.declared.note.Note.{Note}
use Rattle.cs_describe.specs.declared.note.Note.TheVariants as note
use Rattle.cs_describe.specs.Described.{with_note, truth_with_note, front_notes, further_notes, labelled_notes, described, described_members, described_value, described_list, described_elements, described_map, described_named, described_root, described_document}
use Rattle.cs_describe.specs.Plain.{without, schema_without, is_note, plain, LeavesOutNotes}
use Rattle.cs_describe.proofs.Leaving.{notes_are_notes}
use Rattle.cs_describe.proofs.Unchanged.{document_same}
use Rattle.cs_describe.proofs.PlainDefined.{defined_plain}
use Rattle.cs_describe.proofs.PlainLoops.{no_loop_plain, no_loop_full}

abbrev w : Note
w = note.Description

-- the value of a description
abbrev as_text : String Global → Document
as_text t = text (string_bytes t)

-- ---- faults of some kind: a description has none, nor has a value with texts that had none

module _ (f : Visit → Option Fault) (description : (place t : List ℕ) → f (keyword_at false place (codes "description") (text t)) ≡ None)
    (valued : (place k : List ℕ) (v : Document) (n : Notes) → f (keyword_at false place k v) ≡ None → f (keyword_at false place k (described_value w (under k keywords) n v)) ≡ None)
    (definitions : (place : List ℕ) (v : Document) (ns : List (String Global × Notes)) → f (keyword_at true place (codes "$defs") v) ≡ None → f (keyword_at true place (codes "$defs") (described_map w ns v)) ≡ None) where
  abbrev Free : List Visit → Type 0
  Free vs = first f vs ≡ None

  description_free : (place t : List ℕ) → Free (keyword_visits false place (codes "description") (text t))
  description_free place t = ap (λ o. or_else o None) (description place t)

  by_order : (place t m : List ℕ) (e : Document) (ms : Members) → Free (member_visits false place (member m e ms)) → Free (member_visits false place (put (codes "description") (text t) ms))
      → (o : Ordering) → slice_cmp nat_cmp (codes "description") m ≡ o
      → Free (member_visits false place (match_ordering o (member (codes "description") (text t) (member m e ms)) (member m (text t) ms) (member m e (put (codes "description") (text t) ms))))
  by_order place t m e ms all rest Less c = joined f (keyword_visits false place (codes "description") (text t)) (member_visits false place (member m e ms)) (description_free place t) all
  by_order place t m e ms all rest Equal c =
      let same : codes "description" ≡ m = (bytes_eq-Decides (codes "description") m).0 (sym (is_eq-slice_cmp (codes "description") m) ∙ ap is_eq c) in
      let parts = parted f (keyword_visits false place m e) (member_visits false place ms) all in
      joined f (keyword_visits false place m (text t)) (member_visits false place ms) (subst (λ n. Free (keyword_visits false place n (text t))) same (description_free place t)) parts.1
  by_order place t m e ms all rest Greater c =
      let parts = parted f (keyword_visits false place m e) (member_visits false place ms) all in
      joined f (keyword_visits false place m e) (member_visits false place (put (codes "description") (text t) ms)) parts.0 rest

  put_free : (place t : List ℕ) (ms : Members) → Free (member_visits false place ms) → Free (member_visits false place (put (codes "description") (text t) ms))
  put_free place t no_members h = joined f (keyword_visits false place (codes "description") (text t)) [] (description_free place t) refl
  put_free place t (member m e ms) h =
      by_order place t m e ms h (put_free place t ms (parted f (keyword_visits false place m e) (member_visits false place ms) h).1) (slice_cmp nat_cmp (codes "description") m) refl

  text_free : (place : List ℕ) (t : Option (String Global)) (ms : Members) → Free (member_visits false place ms) → Free (member_visits false place (with_note w (option_map as_text t) ms))
  text_free place None ms h = h
  text_free place (Some t) ms h = put_free place (string_bytes t) ms h

  truth_free : (place : List ℕ) (t : Option (String Global)) → Free (visits false place (boolean true)) → Free (visits false place (truth_with_note w (option_map as_text t)))
  truth_free place None h = h
  truth_free place (Some t) h = joined f (keyword_visits false place (codes "description") (text (string_bytes t))) [] (description_free place (string_bytes t)) refl

  inside_free : (o : Option Keyword) (place : List ℕ) (v : Document) (n : Notes)
      → ((p : Option Notes) → Free (visits false place v) → Free (visits false place (described w p v))) → ((ns : List Notes) → Free (list_visits place v) → Free (list_visits place (described_list w ns v)))
      → ((ns : List (String Global × Notes)) → Free (map_visits place v) → Free (map_visits place (described_map w ns v)))
      → Free (within (option_and_then (form_in false) o) (value_visits place v)) → Free (within (option_and_then (form_in false) o) (value_visits place (described_value w o n v)))
  inside_free (Some keyword.Properties) place v n itself elements members h = members _ h
  inside_free (Some keyword.AllOf) place v n itself elements members h = elements _ h
  inside_free (Some keyword.AnyOf) place v n itself elements members h = elements _ h
  inside_free (Some keyword.PrefixItems) place v n itself elements members h = elements _ h
  inside_free (Some keyword.Items) place v n itself elements members h = itself _ h
  inside_free (Some keyword.AdditionalProperties) place v n itself elements members h = itself _ h
  inside_free _ place v n itself elements members h = h

  mutual
    schema_free : (o : Option Notes) (place : List ℕ) (d : Document) → Free (visits false place d) → Free (visits false place (described w o d))
    schema_free None place d h = h
    schema_free (Some n) place (object ms) h = text_free place (out-Notes n).text (described_members w n ms) (members_free n place ms h)
    schema_free (Some n) place (boolean true) h = truth_free place (out-Notes n).text h
    schema_free (Some n) place (boolean false) h = h
    schema_free (Some n) place null h = h
    schema_free (Some n) place (integer z) h = h
    schema_free (Some n) place (text s) h = h
    schema_free (Some n) place (list ds) h = h

    members_free : (n : Notes) (place : List ℕ) (ms : Members) → Free (member_visits false place ms) → Free (member_visits false place (described_members w n ms))
    members_free n place no_members h = refl
    members_free n place (member k v ms) h =
        let x = described_value w (under k keywords) n v in
        let parts = parted f (keyword_visits false place k v) (member_visits false place ms) h in
        let mine = or_else_none (f (keyword_at false place k v)) (first f (within (option_and_then (form_in false) (under k keywords)) (value_visits (at_key place k) v))) parts.0 in
        let deeper = inside_free (under k keywords) (at_key place k) v n (λ p. schema_free p (at_key place k) v) (λ ns. list_free ns (at_key place k) v) (λ ns. map_free ns (at_key place k) v) mine.1 in
        joined f (keyword_visits false place k x) (member_visits false place (described_members w n ms)) (ap₂ or_else (valued place k v n mine.0) deeper) (members_free n place ms parts.1)

    list_free : (ns : List Notes) (place : List ℕ) (d : Document) → Free (list_visits place d) → Free (list_visits place (described_list w ns d))
    list_free ns place (list ds) h = elements_free ns place 0 ds h
    list_free ns place null h = h
    list_free ns place (boolean b) h = h
    list_free ns place (integer z) h = h
    list_free ns place (text s) h = h
    list_free ns place (object ms) h = h

    elements_free : (ns : List Notes) (place : List ℕ) (i : ℕ) (ds : Documents) → Free (element_visits place i ds) → Free (element_visits place i (described_elements w ns ds))
    elements_free ns place i no_documents h = refl
    elements_free ns place i (document d ds) h =
        let parts = parted f (visits false (at_index place i) d) (element_visits place (suc i) ds) h in
        joined f (visits false (at_index place i) (described w (front_notes ns) d)) (element_visits place (suc i) (described_elements w (further_notes ns) ds))
        (schema_free (front_notes ns) (at_index place i) d parts.0) (elements_free (further_notes ns) place (suc i) ds parts.1)

    map_free : (ns : List (String Global × Notes)) (place : List ℕ) (d : Document) → Free (map_visits place d) → Free (map_visits place (described_map w ns d))
    map_free ns place (object ms) h = named_free ns place ms h
    map_free ns place null h = h
    map_free ns place (boolean b) h = h
    map_free ns place (integer z) h = h
    map_free ns place (text s) h = h
    map_free ns place (list ds) h = h

    named_free : (ns : List (String Global × Notes)) (place : List ℕ) (ms : Members) → Free (named_visits place ms) → Free (named_visits place (described_named w ns ms))
    named_free ns place no_members h = refl
    named_free ns place (member k v ms) h =
        let parts = parted f (visits false (at_key place k) v) (named_visits place ms) h in
        joined f (visits false (at_key place k) (described w (labelled_notes k ns) v)) (named_visits place (described_named w ns ms)) (schema_free (labelled_notes k ns) (at_key place k) v parts.0) (named_free ns place ms parts.1)

  part_free : (ns : List (String Global × Notes)) (place k : List ℕ) (v : Document) (t : Bool) → bytes_eq k (codes "$defs") ≡ t → Free (keyword_visits true place k v)
      → Free (keyword_visits true place k (if t then described_map w ns v else v))
  part_free ns place k v false e h = h
  part_free ns place k v true e h =
      let is = (bytes_eq-Decides k (codes "$defs")).0 e in
      let there : Free (keyword_visits true place (codes "$defs") v) = subst (λ n. Free (keyword_visits true place n v)) is h in
      let parts = or_else_none (f (keyword_at true place (codes "$defs") v)) (first f (map_visits (at_key place (codes "$defs")) v)) there in
      subst (λ n. Free (keyword_visits true place n (described_map w ns v))) (sym is) (ap₂ or_else (definitions place v ns parts.0) (map_free ns (at_key place (codes "$defs")) v parts.1))

  root_free : (ns : List (String Global × Notes)) (place : List ℕ) (ms : Members) → Free (member_visits true place ms) → Free (member_visits true place (described_root w ns ms))
  root_free ns place no_members h = refl
  root_free ns place (member k v ms) h =
      let parts = parted f (keyword_visits true place k v) (member_visits true place ms) h in
      joined f (keyword_visits true place k (if bytes_eq k (codes "$defs") then described_map w ns v else v)) (member_visits true place (described_root w ns ms))
      (part_free ns place k v (bytes_eq k (codes "$defs")) refl parts.0) (root_free ns place ms parts.1)

  document_free : (ns : List (String Global × Notes)) (d : Document) → Free (visits true [] d) → Free (visits true [] (described_document w ns d))
  document_free ns (object ms) h = root_free ns [] ms h
  document_free ns null h = h
  document_free ns (boolean b) h = h
  document_free ns (integer z) h = h
  document_free ns (text s) h = h
  document_free ns (list ds) h = h

-- ---- faults of a keyword or its value

list_shaped : (ns : List Notes) (v : Document) → has_form form.Schemas (described_list w ns v) ≡ has_form form.Schemas v
list_shaped ns null = refl
list_shaped ns (boolean b) = refl
list_shaped ns (integer z) = refl
list_shaped ns (text s) = refl
list_shaped ns (list no_documents) = refl
list_shaped ns (list (document d ds)) = refl
list_shaped ns (object ms) = refl

map_shaped : (ns : List (String Global × Notes)) (v : Document) → has_form form.NamedSchemas (described_map w ns v) ≡ has_form form.NamedSchemas v
map_shaped ns null = refl
map_shaped ns (boolean b) = refl
map_shaped ns (integer z) = refl
map_shaped ns (text s) = refl
map_shaped ns (list ds) = refl
map_shaped ns (object ms) = refl

value_shaped : (taken : Vocabulary) (o : Option Keyword) (place k : List ℕ) (v : Document) (n : Notes)
    → form_fault place k (described_value w o n v) (option_and_then (taken_in taken false) o) ≡ form_fault place k v (option_and_then (taken_in taken false) o)
value_shaped taken (Some keyword.Properties) place k v n = ap (shape_fault place k) (map_shaped _ v)
value_shaped taken (Some keyword.AllOf) place k v n = ap (shape_fault place k) (list_shaped _ v)
value_shaped taken (Some keyword.AnyOf) place k v n = ap (shape_fault place k) (list_shaped _ v)
value_shaped taken (Some keyword.PrefixItems) place k v n = ap (shape_fault place k) (list_shaped _ v)
value_shaped taken _ place k v n = refl

pub still_shaped : (taken : Vocabulary) (ns : List (String Global × Notes)) (d : Document) → first (fault_of taken) (visits true [] d) ≡ None → first (fault_of taken) (visits true [] (described_document w ns d)) ≡ None
still_shaped taken ns d h =
    document_free (fault_of taken) (λ place t. refl) (λ place k v n e. value_shaped taken (under k keywords) place k v n ∙ e) (λ place v ms e. ap (shape_fault place (codes "$defs")) (map_shaped ms v) ∙ e) ns d h

-- ---- references

module _ (known : List ℕ → Bool) where
  reference_same : (place k : List ℕ) (v : Document) (n : Notes) (t : Bool) → bytes_eq k (codes "$ref") ≡ t
      → (if t then reference_fault known place (described_value w (under k keywords) n v) else None) ≡ (if t then reference_fault known place v else None)
  reference_same place k v n false e = refl
  reference_same place k v n true e =
      subst (λ m. reference_fault known place (described_value w (under m keywords) n v) ≡ reference_fault known place v) (sym ((bytes_eq-Decides k (codes "$ref")).0 e)) refl

  still_known : (ns : List (String Global × Notes)) (d : Document) → first (undefined_at known) (visits true [] d) ≡ None → first (undefined_at known) (visits true [] (described_document w ns d)) ≡ None
  still_known ns d h =
      document_free (undefined_at known) (λ place t. refl) (λ place k v n e. reference_same place k v n (bytes_eq k (codes "$ref")) refl ∙ e) (λ place v ms e. e) ns d h

pub known_plain : (left_out : List ℕ → Bool) → LeavesOutNotes left_out → (R : Document) (n : List ℕ) → is_some (defined (without left_out R) n) ≡ is_some (defined R n)
known_plain left_out notes R n = ap is_some (defined_plain left_out notes R n) ∙ is_some-map (schema_without left_out) (defined R n)

plain_same : (ns : List (String Global × Notes)) (d : Document) → plain (described_document w ns d) ≡ plain d
plain_same = document_same is_note w refl

known_same : (ns : List (String Global × Notes)) (R : Document) (n : List ℕ) → is_some (defined R n) ≡ is_some (defined (described_document w ns R) n)
known_same ns R n = sym (known_plain is_note notes_are_notes R n) ∙ ap (λ d. is_some (defined d n)) (sym (plain_same ns R)) ∙ known_plain is_note notes_are_notes (described_document w ns R) n

pub still_schema : (taken : Vocabulary) (ns : List (String Global × Notes)) (d : Document) → IsSchema taken d → IsSchema taken (described_document w ns d)
still_schema taken ns d h =
    let e = described_document w ns d in record {
      shaped = still_shaped taken ns d h.shaped;
      named = subst (λ (known : List ℕ → Bool). first (undefined_at known) (visits true [] e) ≡ None) (λ i n. known_same ns d n i) (still_known (λ n. is_some (defined d n)) ns d h.named);
      no_loop = no_loop_full is_note notes_are_notes e (subst NoLoop (sym (plain_same ns d)) (no_loop_plain is_note notes_are_notes d h.no_loop));
    }

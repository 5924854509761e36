-- A note changes nothing of a schema but the notes that are left out.
use Rattle.std.proofs.Common.{◌≡◌, ℕ, Bool, true, false, List, Option, Some, None, Ordering, Less, Equal, Greater, nat_cmp, bytes_eq, is_eq, codes, String, Global, refl, sym, ap, ap₂, ◌∙◌, subst, if◌then◌else◌}
use Rattle.std.proofs.lemmas.Map.Text.{is_eq-slice_cmp}
use Rattle.std.proofs.lemmas.Slice.Eq.{bytes_eq-Decides}
use Rattle.std.specs.Cmp.Lexicographic.{slice_cmp}
use Rattle.std.specs.Option.{option_and_then}
use Rattle.std.specs.Ordering.{match_ordering}
use Rattle.cs_document.specs.Document.{Document, null, boolean, integer, text, list, object, Documents, no_documents, document, Members, no_members, member, under, put}
use Rattle.cs_profile.specs.Keywords.{keywords}
use Rattle.cs_profile.specs.Shapes.{form_in}
use Rattle.cs_profile.specs.declared.keyword.Keyword.{Keyword}
use Rattle.cs_profile.specs.declared.keyword.Keyword.TheVariants as keyword
use Rattle.cs_describe.specs.declared.notes.Notes.{Notes}
use Rattle.cs_describe.specs.declared.note.Note.{Note}
use Rattle.cs_describe.specs.Described.{note_name, note_of, with_note, truth_with_note, front_notes, further_notes, labelled_notes, described, described_members, described_value, described_list, described_elements, described_map, described_named, described_root, described_document}
use Rattle.cs_describe.specs.Plain.{as_schema, plain_by, schema_without, members_without, list_without, elements_without, map_without, named_without, values_without, value_without, without}

module _ (left_out : List ℕ → Bool) (w : Note) (out : left_out (note_name w) ≡ true) where
  -- ---- the note itself

  one_out : (root : Bool) (k : List ℕ) (d : Document) (ms : Members) → left_out k ≡ true → members_without left_out root (member k d ms) ≡ members_without left_out root ms
  one_out root k d ms e = ap (λ b. if b then members_without left_out root ms else member k (value_without left_out root k d) (members_without left_out root ms)) e

  by_order : (root : Bool) (m : List ℕ) (d e : Document) (ms : Members) → members_without left_out root (put (note_name w) d ms) ≡ members_without left_out root ms
      → (o : Ordering) → slice_cmp nat_cmp (note_name w) m ≡ o
      → members_without left_out root (match_ordering o (member (note_name w) d (member m e ms)) (member m d ms) (member m e (put (note_name w) d ms))) ≡ members_without left_out root (member m e ms)
  by_order root m d e ms rest Less c = one_out root (note_name w) d (member m e ms) out
  by_order root m d e ms rest Equal c =
      let equal : note_name w ≡ m = (bytes_eq-Decides (note_name w) m).0 (sym (is_eq-slice_cmp (note_name w) m) ∙ ap is_eq c) in
      let left : left_out m ≡ true = subst (λ n. left_out n ≡ true) equal out in
      one_out root m d ms left ∙ sym (one_out root m e ms left)
  by_order root m d e ms rest Greater c = ap (λ ns. if left_out m then ns else member m (value_without left_out root m e) ns) rest

  put_same : (root : Bool) (d : Document) (ms : Members) → members_without left_out root (put (note_name w) d ms) ≡ members_without left_out root ms
  put_same root d no_members = one_out root (note_name w) d no_members out
  put_same root d (member m e ms) = by_order root m d e ms (put_same root d ms) (slice_cmp nat_cmp (note_name w) m) refl

  note_same : (root : Bool) (o : Option Document) (ms : Members) → members_without left_out root (with_note w o ms) ≡ members_without left_out root ms
  note_same root None ms = refl
  note_same root (Some v) ms = put_same root v ms

  truth_same : (o : Option Document) → schema_without left_out (truth_with_note w o) ≡ boolean true
  truth_same None = refl
  truth_same (Some v) = ap as_schema (one_out false (note_name w) v no_members out)

  -- ---- schemas, and what holds schemas

  value_same : (root : Bool) (o : Option Keyword) (n : Notes) (v : Document)
      → ((p : Option Notes) → schema_without left_out (described w p v) ≡ schema_without left_out v) → ((ns : List Notes) → list_without left_out (described_list w ns v) ≡ list_without left_out v)
      → ((ns : List (String Global × Notes)) → map_without left_out (described_map w ns v) ≡ map_without left_out v)
      → plain_by (option_and_then (form_in root) o) (values_without left_out (described_value w o n v)) ≡ plain_by (option_and_then (form_in root) o) (values_without left_out v)
  value_same root (Some keyword.Properties) n v itself elements members = members _
  value_same root (Some keyword.AllOf) n v itself elements members = elements _
  value_same root (Some keyword.AnyOf) n v itself elements members = elements _
  value_same root (Some keyword.PrefixItems) n v itself elements members = elements _
  value_same root (Some keyword.Items) n v itself elements members = itself _
  value_same root (Some keyword.AdditionalProperties) n v itself elements members = itself _
  value_same root _ n v itself elements members = refl

  mutual
    schema_same : (o : Option Notes) (d : Document) → schema_without left_out (described w o d) ≡ schema_without left_out d
    schema_same None d = refl
    schema_same (Some n) (object ms) = ap as_schema (note_same false (note_of w n) (described_members w n ms) ∙ members_same n ms)
    schema_same (Some n) (boolean true) = truth_same (note_of w n)
    schema_same (Some n) (boolean false) = refl
    schema_same (Some n) null = refl
    schema_same (Some n) (integer z) = refl
    schema_same (Some n) (text s) = refl
    schema_same (Some n) (list ds) = refl

    members_same : (n : Notes) (ms : Members) → members_without left_out false (described_members w n ms) ≡ members_without left_out false ms
    members_same n no_members = refl
    members_same n (member k v ms) =
        ap₂ (λ x ns. if left_out k then ns else member k x ns) (value_same false (under k keywords) n v (λ p. schema_same p v) (λ ns. list_same ns v) (λ ns. map_same ns v)) (members_same n ms)

    list_same : (ns : List Notes) (d : Document) → list_without left_out (described_list w ns d) ≡ list_without left_out d
    list_same ns (list ds) = ap list (elements_same ns ds)
    list_same ns null = refl
    list_same ns (boolean b) = refl
    list_same ns (integer z) = refl
    list_same ns (text s) = refl
    list_same ns (object ms) = refl

    elements_same : (ns : List Notes) (ds : Documents) → elements_without left_out (described_elements w ns ds) ≡ elements_without left_out ds
    elements_same ns no_documents = refl
    elements_same ns (document d ds) = ap₂ document (schema_same (front_notes ns) d) (elements_same (further_notes ns) ds)

    map_same : (ns : List (String Global × Notes)) (d : Document) → map_without left_out (described_map w ns d) ≡ map_without left_out d
    map_same ns (object ms) = ap object (named_same ns ms)
    map_same ns null = refl
    map_same ns (boolean b) = refl
    map_same ns (integer z) = refl
    map_same ns (text s) = refl
    map_same ns (list ds) = refl

    named_same : (ns : List (String Global × Notes)) (ms : Members) → named_without left_out (described_named w ns ms) ≡ named_without left_out ms
    named_same ns no_members = refl
    named_same ns (member k v ms) = ap₂ (member k) (schema_same (labelled_notes k ns) v) (named_same ns ms)

  -- ---- the root

  part_same : (ns : List (String Global × Notes)) (k : List ℕ) (v : Document) (t : Bool) → bytes_eq k (codes "$defs") ≡ t
      → value_without left_out true k (if t then described_map w ns v else v) ≡ value_without left_out true k v
  part_same ns k v false e = refl
  part_same ns k v true e =
      subst (λ n. value_without left_out true n (described_map w ns v) ≡ value_without left_out true n v) (sym ((bytes_eq-Decides k (codes "$defs")).0 e)) (map_same ns v)

  root_same : (ns : List (String Global × Notes)) (ms : Members) → members_without left_out true (described_root w ns ms) ≡ members_without left_out true ms
  root_same ns no_members = refl
  root_same ns (member k v ms) = ap₂ (λ x os. if left_out k then os else member k x os) (part_same ns k v (bytes_eq k (codes "$defs")) refl) (root_same ns ms)

  pub document_same : (ns : List (String Global × Notes)) (d : Document) → without left_out (described_document w ns d) ≡ without left_out d
  document_same ns (object ms) = ap object (root_same ns ms)
  document_same ns null = refl
  document_same ns (boolean b) = refl
  document_same ns (integer z) = refl
  document_same ns (text s) = refl
  document_same ns (list ds) = refl

-- A note makes a schema deeper by what it nests and a level more at most: the schema `true`, which becomes an object, nests so much deeper.
use Rattle.std.proofs.Common.{◌≡◌, ℕ, suc, ◌+◌, ◌≤◌, Bool, true, false, List, Option, Some, None, option_map, option_and_then, Ordering, Less, Equal, Greater, nat_cmp, nat_le, bytes_eq, codes, String, Global, string_bytes, if◌then◌else◌, refl, arith}
use Rattle.std.specs.Cmp.Lexicographic.{slice_cmp}
use Rattle.std.specs.Ordering.{match_ordering}
use Rattle.std.specs.Prelude.{max}
use Rattle.std.proofs.Math.Nat.{le-max_left, le-max_right, max-le}
use Rattle.cs_document.specs.Document.{Document, null, boolean, integer, text, list, object, Documents, no_documents, document, Members, no_members, member, under, put, depth, documents_depth, members_depth}
use Rattle.cs_document.specs.View.{doc_view}
use Rattle.cs_document.specs.declared.doc.Doc.{Doc}
use Rattle.cs_profile.specs.Keywords.{keywords}
use Rattle.cs_profile.specs.declared.keyword.Keyword.{Keyword}
use Rattle.cs_profile.specs.declared.keyword.Keyword.TheVariants as keyword
use Rattle.cs_profile.specs.Shapes.{form_at}
use Rattle.cs_profile.specs.declared.keyword.Form.{Form}
use Rattle.cs_profile.specs.declared.keyword.Form.TheVariants as form
use Rattle.cs_describe.specs.declared.notes.Notes.{Notes, out-Notes}
use Rattle.cs_describe.specs.declared.note.Note.{Note}
use Rattle.cs_describe.specs.declared.note.Note.TheVariants as note
use Rattle.cs_describe.specs.Described.{note_name, most_nested, unless_deep, note_of, with_note, truth_with_note, front_notes, further_notes, labelled_notes, described, described_members, described_value, described_list, described_elements, described_map, described_named, described_root, described_document}
use Rattle.cs_describe.specs.Plain.{as_schema, plain_by, schema_without, members_without, list_without, elements_without, map_without, named_without, values_without, value_without, without}

-- a value, if there is one, nests no deeper
abbrev pub IsWithin : ℕ → Option Document → Type 0
IsWithin b None = Unit {0}
IsWithin b (Some v) = depth v ≤ b

module _ (w : Note) (b : ℕ) (notes_within : (n : Notes) → IsWithin b (note_of w n)) where
  -- both of two, each so much deeper at most
  both : (a c d e : ℕ) → a ≤ suc b + d → c ≤ suc b + e → max a c ≤ suc b + max d e
  both a c d e h k = max-le (omega (arith, le-max_left d e)) (omega (arith, le-max_right d e))

  -- ---- a note among the members

  put_note : (k : List ℕ) (v : Document) (ms : Members) (m : ℕ) → depth v ≤ m → members_depth ms ≤ m → members_depth (put k v ms) ≤ m
  put_note k v no_members m g h = max-le g h
  put_note k v (member l e ms) m g h =
      let here : depth e ≤ m = omega (arith, le-max_left (depth e) (members_depth ms)) in
      let rest : members_depth ms ≤ m = omega (arith, le-max_right (depth e) (members_depth ms)) in
      by (slice_cmp nat_cmp k l) here rest (put_note k v ms m g rest)
    where
      by : (o : Ordering) → depth e ≤ m → members_depth ms ≤ m → members_depth (put k v ms) ≤ m
          → members_depth (match_ordering o (member k v (member l e ms)) (member l v ms) (member l e (put k v ms))) ≤ m
      by Less here rest more = max-le g h
      by Equal here rest more = max-le g rest
      by Greater here rest more = max-le here more

  note_nested : (o : Option Document) (ms : Members) (m : ℕ) → IsWithin b o → b ≤ m → members_depth ms ≤ m → members_depth (with_note w o ms) ≤ m
  note_nested None ms m g more h = h
  note_nested (Some v) ms m g more h = put_note (note_name w) v ms m (omega arith) h

  truth_nested : (o : Option Document) → IsWithin b o → depth (truth_with_note w o) ≤ suc b + 0
  truth_nested None g = omega arith
  truth_nested (Some v) g = let inside : max (depth v) 0 ≤ b = max-le g (omega arith) in omega arith

  -- ---- schemas, and what holds schemas

  value_nested : (o : Option Keyword) (n : Notes) (v : Document)
      → ((p : Option Notes) → depth (described w p v) ≤ suc b + depth v) → ((ns : List Notes) → depth (described_list w ns v) ≤ suc b + depth v)
      → ((ns : List (String Global × Notes)) → depth (described_map w ns v) ≤ suc b + depth v) → depth (described_value w o n v) ≤ suc b + depth v
  value_nested (Some keyword.Properties) n v itself elements members = members _
  value_nested (Some keyword.AllOf) n v itself elements members = elements _
  value_nested (Some keyword.AnyOf) n v itself elements members = elements _
  value_nested (Some keyword.PrefixItems) n v itself elements members = elements _
  value_nested (Some keyword.Items) n v itself elements members = itself _
  value_nested (Some keyword.AdditionalProperties) n v itself elements members = itself _
  value_nested _ n v itself elements members = omega arith

  mutual
    schema_nested : (o : Option Notes) (d : Document) → depth (described w o d) ≤ suc b + depth d
    schema_nested None d = omega arith
    schema_nested (Some n) (object ms) =
        let inside = note_nested (note_of w n) (described_members w n ms) (suc b + members_depth ms) (notes_within n) (omega arith) (members_nested n ms) in omega arith
    schema_nested (Some n) (boolean true) = truth_nested (note_of w n) (notes_within n)
    schema_nested (Some n) (boolean false) = omega arith
    schema_nested (Some n) null = omega arith
    schema_nested (Some n) (integer z) = omega arith
    schema_nested (Some n) (text s) = omega arith
    schema_nested (Some n) (list ds) = omega arith

    members_nested : (n : Notes) (ms : Members) → members_depth (described_members w n ms) ≤ suc b + members_depth ms
    members_nested n no_members = omega arith
    members_nested n (member k v ms) =
        both _ _ (depth v) (members_depth ms) (value_nested (under k keywords) n v (λ p. schema_nested p v) (λ ns. list_nested ns v) (λ ns. map_nested ns v)) (members_nested n ms)

    list_nested : (ns : List Notes) (d : Document) → depth (described_list w ns d) ≤ suc b + depth d
    list_nested ns (list ds) = let inside = elements_nested ns ds in omega arith
    list_nested ns null = omega arith
    list_nested ns (boolean c) = omega arith
    list_nested ns (integer z) = omega arith
    list_nested ns (text s) = omega arith
    list_nested ns (object ms) = omega arith

    elements_nested : (ns : List Notes) (ds : Documents) → documents_depth (described_elements w ns ds) ≤ suc b + documents_depth ds
    elements_nested ns no_documents = omega arith
    elements_nested ns (document d ds) =
        both _ _ (depth d) (documents_depth ds) (schema_nested (front_notes ns) d) (elements_nested (further_notes ns) ds)

    map_nested : (ns : List (String Global × Notes)) (d : Document) → depth (described_map w ns d) ≤ suc b + depth d
    map_nested ns (object ms) = let inside = named_nested ns ms in omega arith
    map_nested ns null = omega arith
    map_nested ns (boolean c) = omega arith
    map_nested ns (integer z) = omega arith
    map_nested ns (text s) = omega arith
    map_nested ns (list ds) = omega arith

    named_nested : (ns : List (String Global × Notes)) (ms : Members) → members_depth (described_named w ns ms) ≤ suc b + members_depth ms
    named_nested ns no_members = omega arith
    named_nested ns (member k v ms) = both _ _ (depth v) (members_depth ms) (schema_nested (labelled_notes k ns) v) (named_nested ns ms)

  -- ---- the root

  part_nested : (ns : List (String Global × Notes)) (v : Document) (t : Bool) → depth (if t then described_map w ns v else v) ≤ suc b + depth v
  part_nested ns v true = map_nested ns v
  part_nested ns v false = omega arith

  root_nested : (ns : List (String Global × Notes)) (ms : Members) → members_depth (described_root w ns ms) ≤ suc b + members_depth ms
  root_nested ns no_members = omega arith
  root_nested ns (member k v ms) = both _ _ (depth v) (members_depth ms) (part_nested ns v (bytes_eq k (codes "$defs"))) (root_nested ns ms)

  document_nested : (ns : List (String Global × Notes)) (d : Document) → depth (described_document w ns d) ≤ suc b + depth d
  document_nested ns (object ms) = let inside = root_nested ns ms in omega arith
  document_nested ns null = omega arith
  document_nested ns (boolean c) = omega arith
  document_nested ns (integer z) = omega arith
  document_nested ns (text s) = omega arith
  document_nested ns (list ds) = omega arith

-- ---- the two notes

description_within : (o : Option (String Global)) → IsWithin 0 (option_map (λ t. text (string_bytes t)) o)
description_within None = tt
description_within (Some t) = omega arith

unless_within : (v : Document) (t : Bool) → nat_le (depth v) most_nested ≡ t → IsWithin most_nested (if t then Some v else None)
unless_within v true e = grind arith
unless_within v false e = tt

default_within : (o : Option Doc) → IsWithin most_nested (option_and_then (λ v. unless_deep (doc_view v)) o)
default_within None = tt
default_within (Some v) = unless_within (doc_view v) (nat_le (depth (doc_view v)) most_nested) refl

pub described_nested : (ns : List (String Global × Notes)) (d : Document) → depth (described_document note.Description ns d) ≤ suc (depth d)
described_nested ns d = let deeper = document_nested note.Description 0 (λ n. description_within (out-Notes n).text) ns d in omega arith

pub defaults_nested : (ns : List (String Global × Notes)) (d : Document) → depth (described_document note.Default ns d) ≤ suc most_nested + depth d
defaults_nested ns d = document_nested note.Default most_nested (λ n. default_within (out-Notes n).default) ns d

-- ---- without some notes

module _ (left_out : List ℕ → Bool) where
  both_less : (a c d e : ℕ) → a ≤ d → c ≤ e → max a c ≤ max d e
  both_less a c d e h k = max-le (omega (arith, le-max_left d e)) (omega (arith, le-max_right d e))

  as_less : (ms : Members) (m : ℕ) → members_depth ms ≤ m → depth (as_schema ms) ≤ suc m
  as_less no_members m h = omega arith
  as_less (member k v ms) m h = omega arith

  value_less : (o : Option Form) (v : Document) → depth (schema_without left_out v) ≤ depth v → depth (list_without left_out v) ≤ depth v → depth (map_without left_out v) ≤ depth v
      → depth (plain_by o (values_without left_out v)) ≤ depth v
  value_less (Some form.Schema) v itself elements members = itself
  value_less (Some form.Schemas) v itself elements members = elements
  value_less (Some form.NamedSchemas) v itself elements members = members
  value_less _ v itself elements members = omega arith

  one_less : (k : List ℕ) (v x : Document) (ms ns : Members) (t : Bool) → depth x ≤ depth v → members_depth ns ≤ members_depth ms
      → members_depth (if t then ns else member k x ns) ≤ max (depth v) (members_depth ms)
  one_less k v x ms ns true h g = omega (arith, le-max_right (depth v) (members_depth ms))
  one_less k v x ms ns false h g = both_less (depth x) (members_depth ns) (depth v) (members_depth ms) h g

  mutual
    schema_less : (d : Document) → depth (schema_without left_out d) ≤ depth d
    schema_less (object ms) = as_less (members_without left_out false ms) (members_depth ms) (members_less false ms)
    schema_less null = omega arith
    schema_less (boolean b) = omega arith
    schema_less (integer z) = omega arith
    schema_less (text s) = omega arith
    schema_less (list ds) = omega arith

    members_less : (root : Bool) (ms : Members) → members_depth (members_without left_out root ms) ≤ members_depth ms
    members_less root no_members = omega arith
    members_less root (member k v ms) =
        one_less k v (value_without left_out root k v) ms (members_without left_out root ms) (left_out k)
        (value_less (form_at root k) v (schema_less v) (list_less v) (map_less v)) (members_less root ms)

    list_less : (d : Document) → depth (list_without left_out d) ≤ depth d
    list_less (list ds) = let inside = elements_less ds in omega arith
    list_less null = omega arith
    list_less (boolean b) = omega arith
    list_less (integer z) = omega arith
    list_less (text s) = omega arith
    list_less (object ms) = omega arith

    elements_less : (ds : Documents) → documents_depth (elements_without left_out ds) ≤ documents_depth ds
    elements_less no_documents = omega arith
    elements_less (document d ds) = both_less _ _ (depth d) (documents_depth ds) (schema_less d) (elements_less ds)

    map_less : (d : Document) → depth (map_without left_out d) ≤ depth d
    map_less (object ms) = let inside = named_less ms in omega arith
    map_less null = omega arith
    map_less (boolean b) = omega arith
    map_less (integer z) = omega arith
    map_less (text s) = omega arith
    map_less (list ds) = omega arith

    named_less : (ms : Members) → members_depth (named_without left_out ms) ≤ members_depth ms
    named_less no_members = omega arith
    named_less (member k v ms) = both_less _ _ (depth v) (members_depth ms) (schema_less v) (named_less ms)

  pub document_less : (d : Document) → depth (without left_out d) ≤ depth d
  document_less (object ms) = let inside = members_less true ms in omega arith
  document_less null = omega arith
  document_less (boolean b) = omega arith
  document_less (integer z) = omega arith
  document_less (text s) = omega arith
  document_less (list ds) = omega arith

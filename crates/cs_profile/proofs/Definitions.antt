-- What a schema document has in its `$defs`.
use Rattle.std.proofs.Common.{◌≡◌, ℕ, Bool, true, false, ◌||◌, List, [], ◌∷◌, ◌++◌, map, Option, Some, None, option_map, String, Global, Ordering, Less, Equal, Greater, string_bytes, nat_cmp, bytes_eq, codes, Bor, is_eq, refl, sym, ap, ◌∙◌, subst, append-nil, if◌then◌else◌, rules}
use Rattle.std.proofs.lemmas.Map.Text.{is_eq-slice_cmp}
use Rattle.std.proofs.lemmas.Slice.Eq.{bytes_eq-Decides}
use Rattle.std.specs.Cmp.Lexicographic.{slice_cmp}
use Rattle.std.specs.Map.{lookup}
use Rattle.std.specs.Ordering.{match_ordering}
use Rattle.std.specs.BTreeMap.{is_at}
use Rattle.cs_document.specs.Document.{Document, boolean, object, text, Members, no_members, member, entries, under, put, Entry}
use Rattle.cs_document.specs.View.{members_of}
use Rattle.cs_profile.specs.Keywords.{listed_under, entries_of, defined}
use Rattle.cs_profile.specs.Numbered.{by_text}
use Rattle.cs_profile.specs.Shapes.{dialect}
use Rattle.cs_profile.specs.Trim.{with_dialect, with_member}
use Rattle.cs_profile.specs.SchemaDocument.{Slot, present, slots_of, schema_view, schema_step, keyword_slots, SchemaValue, IsWhole, document_of, definition_of, definitions_view, unless_no_map}
use Rattle.cs_profile.specs.Root.{with_definitions}
use Rattle.cs_profile.specs.declared.schema.Schema.{Schema, out-Schema, the_lemmas}
use Rattle.cs_profile.specs.declared.schema.Schema.TheOpen.{Schema-F}
use Rattle.cs_profile.specs.declared.schema.Schema.TheFolds.{fold_out-Schema, map-Schema}
use Rattle.cs_profile.specs.declared.schema.Keywords.{Keywords}
use Rattle.cs_profile.proofs.Pushes.{looked_up}
use Rattle.cs_profile.proofs.Slots.{has_slot}

-- ---- a schema is a truth value or an object of keywords

layer : (P : Document → Type 0) → ((b : Bool) → P (boolean b)) → ((k : Keywords) → P (object (present (slots_of k)))) → (s : Schema-F Schema Keywords) → P (schema_step (map-Schema Schema Keywords Document (List Slot) schema_view slots_of s))
layer P f g (Schema-F.Always b) = f b
layer P f g (Schema-F.Object k) = g k.value

pub by_case : (P : Document → Type 0) → ((b : Bool) → P (boolean b)) → ((k : Keywords) → P (object (present (slots_of k)))) → (s : Schema) → P (schema_view s)
by_case P f g s = subst P (sym (fold_out-Schema Document (List Slot) schema_step keyword_slots s)) (layer P f g (out-Schema s))

-- ---- a look-up in the map is one by the text

abbrev pub named : {X : Type 0} → (X → Document) → List (String Global × X) → List (Entry Document)
named f es = map (λ m. (string_bytes m.0, f m.1)) es

mapped_under : {X : Type 0} (f : X → Document) (n : List ℕ) (es : List (String Global × X)) → option_map f (under n (by_text es)) ≡ under n (named f es)
mapped_under f n [] = refl
mapped_under f n (e ∷ es) = by (bytes_eq n (string_bytes e.0)) (mapped_under f n es)
  where
    by : (t : Bool) → option_map f (under n (by_text es)) ≡ under n (named f es) → option_map f (if t then Some e.1 else under n (by_text es)) ≡ (if t then Some (f e.1) else under n (named f es))
    by true h = refl
    by false h = h

pub found : {X : Type 0} (f : X → Document) (n : List ℕ) (es : List (String Global × X)) → option_map f (lookup (is_at (λ k. slice_cmp nat_cmp n (string_bytes k))) es) ≡ under n (named f es)
found f n es = ap (option_map f) (looked_up n es) ∙ mapped_under f n es

copied : {X Y : Type 0} (f : X → Y) (r : Option (Bor X)) → option_map (λ x. f x.now) r ≡ option_map f (option_map (λ x. x.now) r)
copied f None = refl
copied f (Some x) = refl

pub found_definition : (v : SchemaValue) (n : List ℕ) (r : Option (Bor Schema)) → option_map (λ x. x.now) r ≡ lookup (is_at (λ k. slice_cmp nat_cmp n (string_bytes k))) v.definitions
    → option_map (λ s. schema_view s.now) r ≡ definition_of v n
found_definition v n r e = copied schema_view r ∙ ap (option_map schema_view) e ∙ found schema_view n v.definitions

-- ---- what is under `$defs`

pub not_present : (k : List ℕ) (ss : List Slot) → has_slot k ss ≡ false → listed_under k (entries (present ss)) ≡ []
not_present k [] h = refl
not_present k ((n, None) ∷ ss) h = elim (bytes_eq k n) as (λ b. (b || has_slot k ss) ≡ false → listed_under k (entries (present ss)) ≡ []) [ true ↦ λ h. cc | false ↦ not_present k ss ] h
not_present k ((n, Some v) ∷ ss) h =
    elim (bytes_eq k n) as (λ b. (b || has_slot k ss) ≡ false → ((if b then entries_of v else []) ++ listed_under k (entries (present ss))) ≡ []) [ true ↦ λ h. cc | false ↦ not_present k ss ] h

put_at : (k l m : List ℕ) (d e : Document) (ms : Members) → bytes_eq k l ≡ false → listed_under k (entries (put l d ms)) ≡ listed_under k (entries ms)
    → (o : Ordering) → slice_cmp nat_cmp l m ≡ o → listed_under k (entries (match_ordering o (member l d (member m e ms)) (member m d ms) (member m e (put l d ms)))) ≡ listed_under k (entries (member m e ms))
put_at k l m d e ms h rest Less c = rw h refl
put_at k l m d e ms h rest Equal c =
    let same : l ≡ m = (bytes_eq-Decides l m).0 (sym (is_eq-slice_cmp l m) ∙ ap is_eq c) in
    let other : bytes_eq k m ≡ false = ap (bytes_eq k) (sym same) ∙ h in rw other refl
put_at k l m d e ms h rest Greater c = ap (λ es. (if bytes_eq k m then entries_of e else []) ++ es) rest

pub not_put : (k l : List ℕ) (d : Document) (ms : Members) → bytes_eq k l ≡ false → listed_under k (entries (put l d ms)) ≡ listed_under k (entries ms)
not_put k l d no_members h = rw h refl
not_put k l d (member m e ms) h = put_at k l m d e ms h (not_put k l d ms h) (slice_cmp nat_cmp l m) refl

entries_of-members_of : (es : List (String Global × Document)) → entries (members_of es) ≡ by_text es
entries_of-members_of [] = refl
entries_of-members_of (e ∷ es) = ap (λ (r : List (Entry Document)). (string_bytes e.0, e.1) ∷ r) (entries_of-members_of es)

pub viewed : (es : List (String Global × Schema)) → by_text (definitions_view es) ≡ named schema_view es
viewed [] = refl
viewed (e ∷ es) = ap (λ (r : List (Entry Document)). (string_bytes e.0, schema_view e.1) ∷ r) (viewed es)

pub with_defs : (es : List (String Global × Document)) (ms : Members) → listed_under (codes "$defs") (entries ms) ≡ []
    → listed_under (codes "$defs") (entries (with_member (unless_no_map es) (codes "$defs") ms)) ≡ by_text es
with_defs [] ms h = h
with_defs (e ∷ es) ms h = ap (λ r. entries (members_of (e ∷ es)) ++ r) h ∙ append-nil (entries (members_of (e ∷ es))) ∙ entries_of-members_of (e ∷ es)

pub no_definitions : (k : Keywords) → has_slot (codes "$defs") (slots_of k) ≡ false
no_definitions k = search (rules, the_lemmas)

-- where a truth value has no definitions
pub defined_bare : (v : SchemaValue) → ((b : Bool) → schema_view v.root ≡ boolean b → v.definitions ≡ []) → (n : List ℕ) → defined (document_of v) n ≡ definition_of v n
defined_bare v bare n =
    ap (under n) (by_case (λ d. ((b : Bool) → d ≡ boolean b → v.definitions ≡ []) → listed_under (codes "$defs") (entries_of (with_dialect (with_definitions (unless_no_map (definitions_view v.definitions)) d))) ≡ named schema_view v.definitions)
    (λ b bare. rw (bare b refl) refl)
    (λ k bare. not_put (codes "$defs") (codes "$schema") (text dialect) (with_member (unless_no_map (definitions_view v.definitions)) (codes "$defs") (present (slots_of k))) refl
    ∙ with_defs (definitions_view v.definitions) (present (slots_of k)) (not_present (codes "$defs") (slots_of k) (no_definitions k))
    ∙ viewed v.definitions)
    v.root bare)

pub defined_definition : (v : SchemaValue) → IsWhole v → (n : List ℕ) → defined (document_of v) n ≡ definition_of v n
defined_definition v h n = defined_bare v h.bare n

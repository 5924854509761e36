-- The walk and trimming, a part at a time.
use Rattle.std.proofs.Common.{◌≡◌, ℕ, Bool, true, false, List, [], ◌∷◌, ◌++◌, Option, Some, None, String, Global, Vec, string_bytes, string_cmp, Less, refl, sym, ap, ◌∙◌, length, subst, ◌==◌}
use Rattle.std.proofs.Math.Dec.{eqb-suc-zero}
use Rattle.std.specs.List.{AllByRecursion}
use Rattle.std.specs.List.Sorted.{IsStrictlySortedBy}
use Rattle.std.specs.Map.{keys_of}
use Rattle.std.specs.Cmp.Lexicographic.{slice_cmp}
use Rattle.std.specs.Ordering.{nat_cmp}
use Rattle.cs_document.specs.Document.{Document, document, Members, no_members, member, list}
use Rattle.cs_document.specs.View.{doc_view, list_view, object_view, documents_of, members_of}
use Rattle.cs_document.specs.declared.doc.Doc.{Doc}
use Rattle.cs_document.proofs.Entries.{Entry}
use Rattle.cs_profile.specs.Profile.{Fault, Visit, first}
use Rattle.cs_profile.specs.Shapes.{has_form}
use Rattle.cs_profile.specs.declared.keyword.Form.TheVariants as form
use Rattle.cs_profile.specs.Trim.{trimmed, trimmed_members, trimmed_elements, trimmed_named, with_member, trimmed_list}
use Rattle.cs_profile.specs.Values.{trimmed_value}
use Rattle.cs_profile.specs.SchemaDocument.{schema_view, schemas_view, definitions_view, unless_no_list}
use Rattle.cs_schema.specs.Reading.{Refuses, IsReadAs}
use Rattle.cs_profile.specs.declared.schema.KeywordValue.TheVariants as value
use Rattle.cs_profile.specs.declared.fault.SchemaFault.{SchemaFault}
use Rattle.cs_profile.specs.declared.fault.SchemaFault.TheVariants as fault
use Rattle.cs_profile.specs.declared.schema.Schema.{Schema}
use Rattle.cs_profile.proofs.Walks.{first_at}

-- ---- trimming

abbrev pub join : Members → Members → Members
join no_members ns = ns
join (member k v ms) ns = member k v (join ms ns)

pub join-nil : (ms : Members) → join ms no_members ≡ ms
join-nil no_members = refl
join-nil (member k v ms) = ap (member k v) (join-nil ms)

with_member-join : (o : Option Document) (k : List ℕ) (ms ns : Members) → with_member o k (join ms ns) ≡ join (with_member o k ms) ns
with_member-join None k ms ns = refl
with_member-join (Some v) k ms ns = refl

pub trimmed_members-push : (root : Bool) (es : List Entry) (e : Entry)
    → trimmed_members root (object_view (es ++ e ∷ [])) ≡ join (trimmed_members root (object_view es)) (with_member (trimmed_value root (string_bytes e.0) (doc_view e.1)) (string_bytes e.0) no_members)
trimmed_members-push root [] e = refl
trimmed_members-push root (x ∷ es) e =
    ap (with_member (trimmed_value root (string_bytes x.0) (doc_view x.1)) (string_bytes x.0)) (trimmed_members-push root es e)
    ∙ with_member-join (trimmed_value root (string_bytes x.0) (doc_view x.1)) (string_bytes x.0) (trimmed_members root (object_view es)) _

-- each key is below k
abbrev pub KeysBelow : List ℕ → Members → Type 0
KeysBelow k no_members = Unit {0}
KeysBelow k (member l d ms) = (slice_cmp nat_cmp l k ≡ Less) × KeysBelow k ms

below_middle : (first : Entry) (es : List Entry) (e : Entry) (more : List Entry)
    → AllByRecursion (λ y. string_cmp first.0 y ≡ Less) (keys_of (es ++ e ∷ more)) → string_cmp first.0 e.0 ≡ Less
below_middle first [] e more h = h.0
below_middle first (x ∷ es) e more h = below_middle first es e more h.1

with_member-below : (o : Option Document) (k l : List ℕ) (ms : Members) → slice_cmp nat_cmp l k ≡ Less → KeysBelow k ms → KeysBelow k (with_member o l ms)
with_member-below None k l ms h r = r
with_member-below (Some v) k l ms h r = (h, r)

pub trimmed_below : (root : Bool) (done : List Entry) (e : Entry) (left : List Entry) → IsStrictlySortedBy string_cmp (keys_of (done ++ e ∷ left)) → KeysBelow (string_bytes e.0) (trimmed_members root (object_view done))
unfolding IsStrictlySortedBy
trimmed_below root [] e left h = tt
trimmed_below root (d ∷ done) e left h =
    with_member-below (trimmed_value root (string_bytes d.0) (doc_view d.1)) (string_bytes e.0) (string_bytes d.0) (trimmed_members root (object_view done)) (below_middle d done e left h.0) (trimmed_below root done e left h.1)

pub trimmed_named-push : (found : List (String Global × Schema)) (done : List Entry) (name : String Global) (s : Schema) (e : Entry)
    → members_of (definitions_view found) ≡ trimmed_named (object_view done) → string_bytes name ≡ string_bytes e.0 → schema_view s ≡ trimmed false (doc_view e.1)
    → members_of (definitions_view (found ++ (name, s) ∷ [])) ≡ trimmed_named (object_view (done ++ e ∷ []))
trimmed_named-push [] [] name v e is named seen = rw (named, seen)
trimmed_named-push [] (d ∷ done) name v e is named seen = cc
trimmed_named-push (f ∷ found) [] name v e is named seen = cc
trimmed_named-push (f ∷ found) (d ∷ done) name v e is named seen =
    let key : string_bytes f.0 ≡ string_bytes d.0 = cc in
    let first : schema_view f.1 ≡ trimmed false (doc_view d.1) = cc in
    let rest : members_of (definitions_view found) ≡ trimmed_named (object_view done) = cc in
    rw (key, first) (ap (member (string_bytes d.0) (trimmed false (doc_view d.1))) (trimmed_named-push found done name v e rest named seen))

pub trimmed_elements-push : (found : List Schema) (done : List Doc) (s : Schema) (d : Doc)
    → documents_of (schemas_view found) ≡ trimmed_elements (list_view done) → schema_view s ≡ trimmed false (doc_view d)
    → documents_of (schemas_view (found ++ s ∷ [])) ≡ trimmed_elements (list_view (done ++ d ∷ []))
trimmed_elements-push [] [] s d is seen = rw seen
trimmed_elements-push [] (x ∷ done) s d is seen = cc
trimmed_elements-push (f ∷ found) [] s d is seen = cc
trimmed_elements-push (f ∷ found) (x ∷ done) s d is seen =
    let first : schema_view f ≡ trimmed false (doc_view x) = cc in
    let rest : documents_of (schemas_view found) ≡ trimmed_elements (list_view done) = cc in
    rw first (ap (document (trimmed false (doc_view x))) (trimmed_elements-push found done s d rest seen))

-- the fault of a part is that of the whole
pub refuses_at : (f : Visit → Option Fault) (e : SchemaFault) (xs ys : List Visit) (o : Option Fault) → o ≡ first f (xs ++ ys) → Refuses e (first f xs) → Refuses e o
refuses_at f fault.OutOfMemory xs ys o h r = tt
refuses_at f (fault.Keyword p n) xs ys o h r = h ∙ first_at f xs ys _ r
refuses_at f (fault.Shape p n) xs ys o h r = h ∙ first_at f xs ys _ r
refuses_at f (fault.Reference p n) xs ys o h r = h ∙ first_at f xs ys _ r
refuses_at f (fault.Loop ns) xs ys o h r = r

abbrev pub is_nil : {A : Type 0} → List A → Bool
is_nil [] = true
is_nil (x ∷ xs) = false

-- an array of schemas with an element
pub some_read : (ss : Vec Schema Global) (xs : List Doc) (v : Document) → v ≡ list (list_view xs) → is_nil xs ≡ false → documents_of (schemas_view ss.items) ≡ trimmed_elements (list_view xs)
    → IsReadAs form.Schemas v (Some (value.Schemas ss))
some_read ss xs v e some r = (ap (has_form form.Schemas) e ∙ has_some xs some, kept ss.items xs some r ∙ ap (λ d. Some (trimmed_list d)) (sym e))
  where
    has_some : (xs : List Doc) → is_nil xs ≡ false → has_form form.Schemas (list (list_view xs)) ≡ true
    has_some [] h = cc
    has_some (x ∷ xs) h = refl

    kept : (ss : List Schema) (xs : List Doc) → is_nil xs ≡ false → documents_of (schemas_view ss) ≡ trimmed_elements (list_view xs) → unless_no_list (schemas_view ss) ≡ Some (list (trimmed_elements (list_view xs)))
    kept ss [] h r = cc
    kept [] (x ∷ xs) h r = cc
    kept (s ∷ ss) (x ∷ xs) h r = ap (λ ds. Some (list ds)) r

-- an array without one
pub none_listed : (xs : List Doc) (v : Document) → v ≡ list (list_view xs) → is_nil xs ≡ true → has_form form.Schemas v ≡ false
none_listed [] v e h = ap (has_form form.Schemas) e
none_listed (x ∷ xs) v e h = cc

pub nil : {A : Type 0} (xs : List A) (n : ℕ) → n ≡ length xs → (n == 0) ≡ true → is_nil xs ≡ true
nil [] n e h = refl
nil (x ∷ xs) n e h =
    let g : (length (x ∷ xs) == 0) ≡ true = subst (λ m. (m == 0) ≡ true) e h in
    let clash : true ≡ false = sym g ∙ eqb-suc-zero (length xs) in cc

pub not_nil : {A : Type 0} (xs : List A) (n : ℕ) → n ≡ length xs → (n == 0) ≡ false → is_nil xs ≡ false
not_nil [] n e h =
    let g : (0 == 0) ≡ false = subst (λ m. (m == 0) ≡ false) e h in g
not_nil (x ∷ xs) n e h = refl

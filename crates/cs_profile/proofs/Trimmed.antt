-- What a schema document stands for is trimmed, and what is trimmed stays as it is.
use Rattle.std.proofs.Common.{◌≡◌, ℕ, Bool, true, false, List, [], ◌∷◌, map, Option, Some, None, String, Global, Ordering, Less, Equal, Greater, nat_cmp, string_bytes, codes, is_eq, refl, sym, ap, ap₂, ◌∙◌, subst}
use Rattle.std.specs.List.{AllByRecursion as Each}
use Rattle.std.proofs.lemmas.Map.Text.{is_eq-slice_cmp}
use Rattle.std.proofs.lemmas.Slice.Eq.{bytes_eq-Decides}
use Rattle.std.specs.Cmp.Lexicographic.{slice_cmp}
use Rattle.std.specs.Option.{IfSome}
use Rattle.std.specs.Ordering.{match_ordering}
use Rattle.cs_document.specs.Document.{Document, object, text, list, document, Members, no_members, member, put}
use Rattle.cs_document.specs.View.{documents_of, members_of}
use Rattle.cs_document.proofs.Each.{each_of, each_over}
use Rattle.cs_profile.specs.Keywords.{name_of, slot_keywords}
use Rattle.cs_profile.specs.Shapes.{dialect}
use Rattle.cs_profile.specs.declared.keyword.Keyword.{Keyword}
use Rattle.cs_profile.specs.declared.keyword.Keyword.TheVariants as keyword
use Rattle.cs_profile.specs.Trim.{trim, trimmed, trimmed_members, trimmed_list, trimmed_elements, trimmed_named, with_dialect, with_member}
use Rattle.cs_profile.specs.Values.{trimmed_value}
use Rattle.cs_profile.specs.SchemaDocument.{Slot, present, slots_of, schema_view, schema_step, value_of, keyword_slots, SchemaValue, document_of, definitions_view, unless_no_map, unless_no_list, text_document}
use Rattle.cs_profile.specs.Root.{with_definitions}
use Rattle.cs_profile.specs.declared.schema.Schema.{Schema, roll-Schema}
use Rattle.cs_profile.specs.declared.schema.Schema.TheOpen.{Schema-F, Keywords-F}
use Rattle.cs_profile.specs.declared.schema.Schema.TheFolds.{fold-roll-Schema, fold-roll-Keywords, map-Schema, map-Keywords, ind-Schema, ind-Keywords}
use Rattle.cs_profile.specs.declared.schema.Keywords.{Keywords, roll-Keywords}
use Rattle.cs_profile.proofs.Definitions.{by_case}

-- trimming leaves a schema as it is
abbrev pub IsTrimmed : Document → Type 0
IsTrimmed d = trimmed false d ≡ d

-- trimming keeps the keywords that stand, with their values
abbrev pub StaysAt : List ℕ → Option Document → Type 0
StaysAt n o = IfSome o (λ v. (root : Bool) → trimmed_value root n v ≡ Some v)

abbrev pub Stays : List Slot → Type 0
Stays = Each (λ (s : Slot). StaysAt s.0 s.1)

pub present_stays : (root : Bool) (ss : List Slot) → Stays ss → trimmed_members root (present ss) ≡ present ss
present_stays root [] h = refl
present_stays root ((n, None) ∷ ss) h = present_stays root ss h.1
present_stays root ((n, Some v) ∷ ss) h = ap₂ (λ o ms. with_member o n ms) (h.0 root) (present_stays root ss h.1)

elements_stay : (ds : List Document) → Each IsTrimmed ds → trimmed_elements (documents_of ds) ≡ documents_of ds
elements_stay [] h = refl
elements_stay (d ∷ ds) h = ap₂ document h.0 (elements_stay ds h.1)

in_both : (n : List ℕ) (v : Document) → trimmed_value true n v ≡ Some v → trimmed_value false n v ≡ Some v → (root : Bool) → trimmed_value root n v ≡ Some v
in_both n v t f true = t
in_both n v t f false = f

-- a keyword whose value holds no schema
plain : (n : List ℕ) → ((v : Document) → trimmed_value true n v ≡ Some v) → ((v : Document) → trimmed_value false n v ≡ Some v) → (o : Option Document) → StaysAt n o
plain n t f None = tt
plain n t f (Some v) = in_both n v (t v) (f v)

-- one whose value is a schema
one : (n : List ℕ) → ((v : Document) → IsTrimmed v → trimmed_value true n v ≡ Some v) → ((v : Document) → IsTrimmed v → trimmed_value false n v ≡ Some v) → (o : Option Document) → IfSome o IsTrimmed → StaysAt n o
one n t f None h = tt
one n t f (Some v) h = in_both n v (t v h) (f v h)

-- and one whose value is a list of schemas
listed : (n : List ℕ) → ((v : Document) → trimmed_list v ≡ v → trimmed_value true n v ≡ Some v) → ((v : Document) → trimmed_list v ≡ v → trimmed_value false n v ≡ Some v)
    → (ds : List Document) → Each IsTrimmed ds → StaysAt n (unless_no_list ds)
listed n t f [] h = tt
listed n t f (d ∷ ds) h =
    let e : trimmed_list (list (documents_of (d ∷ ds))) ≡ list (documents_of (d ∷ ds)) = ap list (elements_stay (d ∷ ds) h) in
    in_both n (list (documents_of (d ∷ ds))) (t (list (documents_of (d ∷ ds))) e) (f (list (documents_of (d ∷ ds))) e)

abbrev ValueTrimmed : String Global × Document → Type 0
ValueTrimmed e = IsTrimmed e.1

named_stay : (es : List (String Global × Document)) → Each ValueTrimmed es → trimmed_named (members_of es) ≡ members_of es
named_stay [] h = refl
named_stay (e ∷ es) h = ap₂ (member (string_bytes e.0)) h.0 (named_stay es h.1)

properties : (es : List (String Global × Document)) → Each ValueTrimmed es → StaysAt (codes "properties") (unless_no_map es)
properties [] h = tt
properties (e ∷ es) h =
    let same = ap (λ ms. Some (object ms)) (named_stay (e ∷ es) h) in in_both (codes "properties") (object (members_of (e ∷ es))) same same

required : (ss : List (String Global)) → StaysAt (codes "required") (unless_no_list (map text_document ss))
required [] = tt
required (s ∷ ss) = in_both (codes "required") (list (documents_of (map text_document (s ∷ ss)))) refl refl

-- the schemas of an object of keywords are trimmed
record PartsTrimmed (k : Keywords-F Document (List Slot)) : Type 0 where
  additional : IfSome k.additional IsTrimmed
  all_of : Each IsTrimmed k.all_of.items
  any_of : Each IsTrimmed k.any_of.items
  rest : IfSome k.rest IsTrimmed
  negated : IfSome k.negated IsTrimmed
  prefix : Each IsTrimmed k.prefix.items
  properties : Each ValueTrimmed k.properties.entries

one_stays : (k : Keywords-F Document (List Slot)) → PartsTrimmed k → (w : Keyword) → StaysAt (name_of w) (value_of k w)
one_stays k h keyword.AdditionalProperties = one (codes "additionalProperties") (λ v e. ap Some e) (λ v e. ap Some e) _ h.additional
one_stays k h keyword.AllOf = listed (codes "allOf") (λ v e. ap Some e) (λ v e. ap Some e) _ h.all_of
one_stays k h keyword.AnyOf = listed (codes "anyOf") (λ v e. ap Some e) (λ v e. ap Some e) _ h.any_of
one_stays k h keyword.Items = one (codes "items") (λ v e. ap Some e) (λ v e. ap Some e) _ h.rest
one_stays k h keyword.Not = one (codes "not") (λ v e. ap Some e) (λ v e. ap Some e) _ h.negated
one_stays k h keyword.PrefixItems = listed (codes "prefixItems") (λ v e. ap Some e) (λ v e. ap Some e) _ h.prefix
one_stays k h keyword.Properties = properties _ h.properties
one_stays k h keyword.Required = required _
one_stays k h keyword.Comment = tt
one_stays k h keyword.Defs = tt
one_stays k h keyword.Description = tt
one_stays k h keyword.Schema = tt
one_stays k h keyword.Title = tt
one_stays k h w = plain (name_of w) (λ v. refl) (λ v. refl) (value_of k w)

layer_stays : (k : Keywords-F Document (List Slot)) → PartsTrimmed k → Stays (keyword_slots k)
layer_stays k h =
    each_over (λ w. (name_of w, value_of k w)) (λ (s : Slot). StaysAt s.0 s.1) slot_keywords (each_of (λ w. StaysAt (name_of w) (value_of k w)) (one_stays k h) slot_keywords)

-- ---- by induction on the schema

abbrev Checked : Type 0
Checked = (s : Schema) × IsTrimmed (schema_view s)

abbrev CheckedKeywords : Type 0
CheckedKeywords = (k : Keywords) × Stays (slots_of k)

each_checked : (ss : List Checked) → Each IsTrimmed (map schema_view (map (λ (e : Checked). e.0) ss))
each_checked [] = tt
each_checked (e ∷ ss) = (e.1, each_checked ss)

abbrev view_of : Keywords-F Checked CheckedKeywords → Keywords-F Document (List Slot)
view_of y = map-Keywords Schema Keywords Document (List Slot) schema_view slots_of (map-Keywords Checked CheckedKeywords Schema Keywords (λ e. e.0) (λ e. e.0) y)

additional_checked : (y : Keywords-F Checked CheckedKeywords) (o : Option Checked) → y.additional ≡ o → IfSome (view_of y).additional IsTrimmed
additional_checked y None e = rw e tt
additional_checked y (Some s) e = rw e s.1

rest_checked : (y : Keywords-F Checked CheckedKeywords) (o : Option Checked) → y.rest ≡ o → IfSome (view_of y).rest IsTrimmed
rest_checked y None e = rw e tt
rest_checked y (Some s) e = rw e s.1

negated_checked : (y : Keywords-F Checked CheckedKeywords) (o : Option Checked) → y.negated ≡ o → IfSome (view_of y).negated IsTrimmed
negated_checked y None e = rw e tt
negated_checked y (Some s) e = rw e s.1

named_checked : (es : List (String Global × Checked)) → Each ValueTrimmed (map (λ (e : String Global × Schema). (e.0, schema_view e.1)) (map (λ (e : String Global × Checked). (e.0, e.1.0)) es))
named_checked [] = tt
named_checked (e ∷ es) = (e.1.1, named_checked es)

parts_checked : (y : Keywords-F Checked CheckedKeywords) → PartsTrimmed (view_of y)
parts_checked y = record {
  additional = additional_checked y y.additional refl;
  all_of = each_checked y.all_of.items;
  any_of = each_checked y.any_of.items;
  rest = rest_checked y y.rest refl;
  negated = negated_checked y y.negated refl;
  prefix = each_checked y.prefix.items;
  properties = named_checked y.properties.entries;
}

schema_layer : (y : Schema-F Checked CheckedKeywords)
    → IsTrimmed (schema_step (map-Schema Schema Keywords Document (List Slot) schema_view slots_of (map-Schema Checked CheckedKeywords Schema Keywords (λ e. e.0) (λ e. e.0) y)))
schema_layer (Schema-F.Always b) = refl
schema_layer (Schema-F.Object k) = ap object (present_stays false (slots_of k.value.0) k.value.1)

schema_rolled : (x : Schema-F Schema Keywords) (y : Schema-F Checked CheckedKeywords) → map-Schema Checked CheckedKeywords Schema Keywords (λ e. e.0) (λ e. e.0) y ≡ x → IsTrimmed (schema_view (roll-Schema x))
schema_rolled x y is =
    subst IsTrimmed (sym (fold-roll-Schema Document (List Slot) schema_step keyword_slots x ∙ ap (λ z. schema_step (map-Schema Schema Keywords Document (List Slot) schema_view slots_of z)) (sym is))) (schema_layer y)

keywords_rolled : (x : Keywords-F Schema Keywords) (y : Keywords-F Checked CheckedKeywords) → map-Keywords Checked CheckedKeywords Schema Keywords (λ e. e.0) (λ e. e.0) y ≡ x → Stays (slots_of (roll-Keywords x))
keywords_rolled x y is =
    subst Stays (sym (fold-roll-Keywords Document (List Slot) schema_step keyword_slots x ∙ ap (λ z. keyword_slots (map-Keywords Schema Keywords Document (List Slot) schema_view slots_of z)) (sym is)))
    (layer_stays (view_of y) (parts_checked y))

pub schema_trimmed : (s : Schema) → IsTrimmed (schema_view s)
schema_trimmed = ind-Schema (λ s. IsTrimmed (schema_view s)) (λ k. Stays (slots_of k)) schema_rolled keywords_rolled

pub slots_stay : (k : Keywords) → Stays (slots_of k)
slots_stay = ind-Keywords (λ s. IsTrimmed (schema_view s)) (λ k. Stays (slots_of k)) schema_rolled keywords_rolled

named_trimmed : (es : List (String Global × Schema)) → Each ValueTrimmed (definitions_view es)
named_trimmed [] = tt
named_trimmed (e ∷ es) = (schema_trimmed e.1, named_trimmed es)

-- ---- the root

-- a keyword that is left out may as well be put in
put_at : (k m : List ℕ) (d e : Document) (ms : Members) → ((v : Document) → trimmed_value true k v ≡ None) → trimmed_members true (put k d ms) ≡ trimmed_members true ms
    → (o : Ordering) → slice_cmp nat_cmp k m ≡ o → trimmed_members true (match_ordering o (member k d (member m e ms)) (member m d ms) (member m e (put k d ms))) ≡ trimmed_members true (member m e ms)
put_at k m d e ms none rest Less c = ap (λ o. with_member o k (trimmed_members true (member m e ms))) (none d)
put_at k m d e ms none rest Equal c =
    let same : k ≡ m = (bytes_eq-Decides k m).0 (sym (is_eq-slice_cmp k m) ∙ ap is_eq c) in
    let left_out : (v : Document) → trimmed_value true m v ≡ None = subst (λ l. (v : Document) → trimmed_value true l v ≡ None) same none in
    ap (λ o. with_member o m (trimmed_members true ms)) (left_out d ∙ sym (left_out e))
put_at k m d e ms none rest Greater c = ap (with_member (trimmed_value true m e) m) rest

trimmed_put : (k : List ℕ) (d : Document) (ms : Members) → ((v : Document) → trimmed_value true k v ≡ None) → trimmed_members true (put k d ms) ≡ trimmed_members true ms
trimmed_put k d no_members none = ap (λ o. with_member o k no_members) (none d)
trimmed_put k d (member m e ms) none = put_at k m d e ms none (trimmed_put k d ms none) (slice_cmp nat_cmp k m) refl

definitions_stay : (es : List (String Global × Schema)) (ms : Members) → trimmed_members true ms ≡ ms
    → trimmed_members true (with_member (unless_no_map (definitions_view es)) (codes "$defs") ms) ≡ with_member (unless_no_map (definitions_view es)) (codes "$defs") ms
definitions_stay [] ms h = h
definitions_stay (e ∷ es) ms h = ap₂ (λ ns rest. member (codes "$defs") (object ns) rest) (named_stay (definitions_view (e ∷ es)) (named_trimmed (e ∷ es))) h

pub document_trimmed : (v : SchemaValue) → trim (document_of v) ≡ document_of v
document_trimmed v =
    by_case (λ d. trim (with_dialect (with_definitions (unless_no_map (definitions_view v.definitions)) d)) ≡ with_dialect (with_definitions (unless_no_map (definitions_view v.definitions)) d))
    (λ b. refl)
    (λ k. ap (λ ms. object (put (codes "$schema") (text dialect) ms))
    (trimmed_put (codes "$schema") (text dialect) (with_member (unless_no_map (definitions_view v.definitions)) (codes "$defs") (present (slots_of k))) (λ v. refl)
    ∙ definitions_stay v.definitions (present (slots_of k)) (present_stays true (slots_of k) (slots_stay k))))
    v.root

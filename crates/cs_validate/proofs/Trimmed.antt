-- Trimming changes no count of rules: what it leaves out has no schema inside.
use Rattle.std.proofs.Common.{◌≡◌, ℕ, suc, ◌+◌, ◌*◌, ◌<◌, Bool, true, false, cond, List, [], ◌++◌, length, Option, Some, None, Ordering, Less, Equal, Greater, nat_cmp, codes, is_eq, refl, sym, ap, ap₂, ◌∙◌, subst}
use Rattle.std.proofs.lemmas.List.{length-append}
use Rattle.std.proofs.lemmas.Map.Text.{is_eq-slice_cmp}
use Rattle.std.proofs.lemmas.Slice.Eq.{bytes_eq-Decides}
use Rattle.std.specs.Cmp.Lexicographic.{slice_cmp}
use Rattle.std.specs.Ordering.{match_ordering}
use Rattle.cs_document.specs.Document.{Document, null, boolean, integer, text, list, object, Documents, no_documents, document, Members, no_members, member, put}
use Rattle.cs_flat.specs.Nodes.{nodes}
use Rattle.cs_table.specs.Limit.{most_pairs}
use Rattle.cs_profile.specs.Shapes.{form_at, keeping, is_kept, BySchemas, by_form, dialect}
use Rattle.cs_profile.specs.Trim.{trim, trimmed, trimmed_members, trimmed_list, trimmed_elements, trimmed_map, trimmed_named, with_dialect, with_member, trimmed_as}
use Rattle.cs_profile.specs.Values.{value_trims}
use Rattle.cs_profile.specs.declared.keyword.Form.{Form}
use Rattle.cs_profile.specs.declared.keyword.Form.TheVariants as form
use Rattle.cs_validate.specs.Rules.{in_value, subschemas, member_schemas, list_schemas, element_schemas, map_schemas, named_schemas, rules_of, HasManyPairs}
use Rattle.cs_validate.specs.Refusal.{AreManyPairs}

-- the schemas in a keyword's value, by the way that it may hold them
abbrev value_schemas : Document → BySchemas (List Document)
value_schemas v = record {
  none = [];
  itself = subschemas false v;
  elements = list_schemas v;
  members = map_schemas v;
}

both : (as' bs cs ds : List Document) → length as' ≡ length cs → length bs ≡ length ds → length (as' ++ bs) ≡ length (cs ++ ds)
both as' bs cs ds e f = length-append as' bs ∙ ap₂ (λ m n. m + n) e f ∙ sym (length-append cs ds)

-- ---- one keyword

module _ (v : Document) where
  -- nothing that is left out has a schema inside
  none_left_out : (f : Form) → is_kept (keeping f) v ≡ false → length (by_form f (value_schemas v)) ≡ 0
  none_left_out form.Dialect h = refl
  none_left_out form.Reference h = refl
  none_left_out form.Kind h = refl
  none_left_out form.Anything h = refl
  none_left_out form.Array h = refl
  none_left_out form.Integer h = refl
  none_left_out form.Count h = refl
  none_left_out form.Texts h = refl
  none_left_out form.Text h = refl
  none_left_out form.Schema h = cc
  none_left_out form.Schemas h = cc
  none_left_out form.NamedSchemas h = empty v h
    where
      empty : (d : Document) → is_kept (keeping form.NamedSchemas) d ≡ false → length (map_schemas d) ≡ 0
      empty (object no_members) e = refl
      empty (object (member k d ms)) e = cc
      empty _ e = refl

  module _ (itself : length (subschemas false (trimmed false v)) ≡ length (subschemas false v)) (elements : length (list_schemas (trimmed_list v)) ≡ length (list_schemas v))
      (members : length (map_schemas (trimmed_map v)) ≡ length (map_schemas v)) where
    count_in : (f : Form) → length (by_form f (value_schemas (by_form f (value_trims v)))) ≡ length (by_form f (value_schemas v))
    count_in form.Dialect = refl
    count_in form.Reference = refl
    count_in form.Kind = refl
    count_in form.Anything = refl
    count_in form.Array = refl
    count_in form.Integer = refl
    count_in form.Count = refl
    count_in form.Texts = refl
    count_in form.Text = refl
    count_in form.Schema = itself
    count_in form.Schemas = elements
    count_in form.NamedSchemas = members

    count_at : (root : Bool) (k : List ℕ) (ns ms : Members) → length (member_schemas root ns) ≡ length (member_schemas root ms) → (o : Option Form) → form_at root k ≡ o
        → length (member_schemas root (with_member (trimmed_as o v (value_trims v)) k ns)) ≡ length (in_value o (value_schemas v) ++ member_schemas root ms)
    count_at root k ns ms rest None e = ap (λ o. length (in_value o (value_schemas v) ++ member_schemas root ns)) e ∙ rest
    count_at root k ns ms rest (Some f) e = by (is_kept (keeping f) v) refl
      where
        by : (b : Bool) → is_kept (keeping f) v ≡ b
            → length (member_schemas root (with_member (cond b (Some (by_form f (value_trims v))) None) k ns)) ≡ length (by_form f (value_schemas v) ++ member_schemas root ms)
        by true h =
            ap (λ o. length (in_value o (value_schemas (by_form f (value_trims v))) ++ member_schemas root ns)) e
            ∙ both (by_form f (value_schemas (by_form f (value_trims v)))) (member_schemas root ns) (by_form f (value_schemas v)) (member_schemas root ms) (count_in f) rest
        by false h = both [] (member_schemas root ns) (by_form f (value_schemas v)) (member_schemas root ms) (sym (none_left_out f h)) rest

-- ---- schemas, at the root or below it

mutual
  count : (root : Bool) (d : Document) → length (subschemas root (trimmed root d)) ≡ length (subschemas root d)
  count root null = refl
  count root (boolean b) = refl
  count root (integer z) = refl
  count root (text s) = refl
  count root (list ds) = refl
  count root (object ms) = ap suc (member_count root ms)

  member_count : (root : Bool) (ms : Members) → length (member_schemas root (trimmed_members root ms)) ≡ length (member_schemas root ms)
  member_count root no_members = refl
  member_count root (member k v ms) = count_at v (count false v) (list_count v) (map_count v) root k (trimmed_members root ms) ms (member_count root ms) (form_at root k) refl

  list_count : (d : Document) → length (list_schemas (trimmed_list d)) ≡ length (list_schemas d)
  list_count (list ds) = element_count ds
  list_count null = refl
  list_count (boolean b) = refl
  list_count (integer z) = refl
  list_count (text s) = refl
  list_count (object ms) = refl

  element_count : (ds : Documents) → length (element_schemas (trimmed_elements ds)) ≡ length (element_schemas ds)
  element_count no_documents = refl
  element_count (document d ds) = both (subschemas false (trimmed false d)) (element_schemas (trimmed_elements ds)) (subschemas false d) (element_schemas ds) (count false d) (element_count ds)

  map_count : (d : Document) → length (map_schemas (trimmed_map d)) ≡ length (map_schemas d)
  map_count (object ms) = named_count ms
  map_count null = refl
  map_count (boolean b) = refl
  map_count (integer z) = refl
  map_count (text s) = refl
  map_count (list ds) = refl

  named_count : (ms : Members) → length (named_schemas (trimmed_named ms)) ≡ length (named_schemas ms)
  named_count no_members = refl
  named_count (member k v ms) = both (subschemas false (trimmed false v)) (named_schemas (trimmed_named ms)) (subschemas false v) (named_schemas ms) (count false v) (named_count ms)

-- ---- the root

-- a keyword that holds no schemas may as well be put in
module _ (k : List ℕ) (d : Document) (none : (v : Document) → in_value (form_at true k) (value_schemas v) ≡ []) where
  put_at : (m : List ℕ) (e : Document) (ms : Members) → member_schemas true (put k d ms) ≡ member_schemas true ms → (o : Ordering) → slice_cmp nat_cmp k m ≡ o
      → member_schemas true (match_ordering o (member k d (member m e ms)) (member m d ms) (member m e (put k d ms))) ≡ member_schemas true (member m e ms)
  put_at m e ms rest Less c = ap (λ l. l ++ member_schemas true (member m e ms)) (none d)
  put_at m e ms rest Equal c =
      let same : k ≡ m = (bytes_eq-Decides k m).0 (sym (is_eq-slice_cmp k m) ∙ ap is_eq c) in
      let none_at : (v : Document) → in_value (form_at true m) (value_schemas v) ≡ [] = subst (λ l. (v : Document) → in_value (form_at true l) (value_schemas v) ≡ []) same none in
      ap (λ l. l ++ member_schemas true ms) (none_at d ∙ sym (none_at e))
  put_at m e ms rest Greater c = ap (λ l. in_value (form_at true m) (value_schemas e) ++ l) rest

  schemas_put : (ms : Members) → member_schemas true (put k d ms) ≡ member_schemas true ms
  schemas_put no_members = ap (λ l. l ++ []) (none d)
  schemas_put (member m e ms) = put_at m e ms (schemas_put ms) (slice_cmp nat_cmp k m) refl

dialect_count : (d : Document) → length (subschemas true (with_dialect d)) ≡ length (subschemas true d)
dialect_count (object ms) = ap (λ l. suc (length l)) (schemas_put (codes "$schema") (text dialect) (λ v. refl) ms)
dialect_count null = refl
dialect_count (boolean b) = refl
dialect_count (integer z) = refl
dialect_count (text s) = refl
dialect_count (list ds) = refl

pub rules_trimmed : (d : Document) → length (rules_of (trim d)) ≡ length (rules_of d)
rules_trimmed d = dialect_count (trimmed true d) ∙ count true d

-- so a schema and the trimmed one have the same pairs with a document
pub many_untrimmed : (d x : Document) (items rules : ℕ) → AreManyPairs (trim d) x items rules → AreManyPairs d x items rules
many_untrimmed d x items rules h = record { items = h.items; rules = h.rules ∙ rules_trimmed d; many = h.many }

pub many_trimmed : (d x : Document) → HasManyPairs d x → HasManyPairs (trim d) x
many_trimmed d x h = subst (λ n. most_pairs < length (nodes x) * n) (sym (rules_trimmed d)) h

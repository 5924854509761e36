use Rattle.std.proofs.Common.{◌≡◌, suc, add-one, ◌+◌, true, false, [], ◌∷◌, ◌++◌, None, Some, take, drop, string_bytes, string_cmp, sym, ap, ◌∙◌, subst, append_assoc, rules}
use Rattle.std.specs.List.Sorted.{IsStrictlySortedBy}
use Rattle.std.specs.Map.{keys_of}
use Rattle.cs_document.specs.View.{doc_view, list_view, object_view, documents_of, members_of}
use Rattle.cs_document.specs.Document.{no_members}
use Rattle.cs_document.proofs.Views.{view-List}
use Rattle.cs_document.proofs.Entries.{Entry}
use Rattle.cs_document.proofs.Maps.{texts, insert_last, texts_more, drop_at, take_at}
use Rattle.cs_profile.specs.Profile.{first, fault_of, visits, member_visits, list_visits, element_visits, named_visits}
use Rattle.cs_profile.specs.Values.{keyword_visits, trimmed_value}
use Rattle.cs_profile.specs.Places.{at_key as key_place, at_index as index_place}
use Rattle.cs_profile.specs.Trim.{trimmed_elements, with_member}
use Rattle.cs_profile.specs.SchemaDocument.{schemas_view, definitions_view, present, value_at}
use Rattle.cs_profile.specs.Keywords.{name_of}
use Rattle.cs_profile.specs.Shapes.{stands, form_of}
use Rattle.cs_schema.specs.Reading.{slots, Refuses, inside}
use Rattle.cs_profile.proofs.Walks.{first_past}
use Rattle.cs_schema.proofs.Placed.{faults_placed}
use Rattle.cs_schema.proofs.Keyed.{keyword_right, keyword_refused, schema_right, schema_refused}
use Rattle.cs_schema.proofs.Walks.{refuses_at, trimmed_members-push, trimmed_below, trimmed_named-push, trimmed_elements-push, join, KeysBelow, is_nil, not_nil, some_read}
use Rattle.cs_schema.proofs.Slots.{set-last}
use Rattle.cs_schema.proofs.read.+read.Goals as goal

-- ---- the keywords of an object

pub read_members-returns-in_err-keyword : goal.read_members-returns-in_err-keyword
read_members-returns-in_err-keyword t c =
    let l = c.loop-key in
    let root = c.args.root in
    let k = string_bytes c.in-Some.key.now in
    let d = doc_view c.in-Some.value.now in
    let seen = l.invariant.seen ∙ ap (λ es. first (fault_of c.args.vocabulary) (member_visits root [] (object_view es))) c.in-Some.ensures.steps in
    let mine = subst (λ n. Refuses c.in_err-keyword.field-0.0 (first (fault_of c.args.vocabulary) (keyword_visits root [] n d))) c.deref.ensures c.in_err-keyword.ensures in
    let whole = refuses_at (fault_of c.args.vocabulary) c.in_err-keyword.field-0.0 (keyword_visits root [] k d) (member_visits root [] (object_view c.next.new.self)) _ seen mine in
    search rules

pub read_members-loop-key-preserved : goal.read_members-loop-key-preserved
read_members-loop-key-preserved t c =
    let l = c.loop-key in
    let done = l.invariant.done in
    let e : Entry = (c.in-Some.key.now, c.in-Some.value.now) in
    let left = c.next.new.self in
    let k = string_bytes e.0 in
    let d = doc_view e.1 in
    let root = c.args.root in
    let w = c.in_ok-keyword.keyword in
    let f = c.in_ok-keyword.value in
    let read = c.in_ok-keyword.ensures in
    let named : c.deref.result.now ≡ k = c.deref.ensures in
    let all : c.args.members.now.entries ≡ done ++ e ∷ left = l.invariant.all ∙ ap (λ es. done ++ es) c.in-Some.ensures.steps in
    let sorted = subst (λ es. IsStrictlySortedBy string_cmp (keys_of es)) all c.into_iter-key-iterator.ensures.into_iter_gives.5 in
    let right : first (fault_of c.args.vocabulary) (keyword_visits root [] k d) ≡ None = ap (λ n. first (fault_of c.args.vocabulary) (keyword_visits root [] n d)) (sym named) ∙ read.0 in
    let value : value_at (form_of w) f ≡ trimmed_value root k d = read.1.found ∙ ap (λ n. trimmed_value root n d) named in
    let name : name_of w ≡ k = read.1.name ∙ named in
    let below : KeysBelow k (present (slots l.parts)) = subst (KeysBelow k) (sym l.invariant.made) (trimmed_below root done e left sorted) in
    record {
      done = done ++ e ∷ [];
      all = all ∙ sym (append_assoc done (e ∷ []) left);
      seen = l.invariant.seen ∙ ap (λ es. first (fault_of c.args.vocabulary) (member_visits root [] (object_view es))) c.in-Some.ensures.steps ∙ first_past (fault_of c.args.vocabulary) (keyword_visits root [] k d) (member_visits root [] (object_view left)) right;
      made = ap present c.set-parts.ensures.slots ∙ set-last w f l.parts (subst (λ n. KeysBelow n (present (slots l.parts))) (sym name) below)
          ∙ ap (λ n. join (present (slots l.parts)) (with_member (value_at (form_of w) f) n no_members)) name
          ∙ ap (λ o. join (present (slots l.parts)) (with_member o k no_members)) value
          ∙ ap (λ ms. join ms (with_member (trimmed_value root k d) k no_members)) l.invariant.made
          ∙ sym (trimmed_members-push root done e);
      below = λ h. c.set-parts.ensures.below (subst (λ b. stands b w ≡ true) h read.1.stands) ∙ l.invariant.below h;
    }

-- ---- a keyword

pub read_keyword-returns-in-Ok-Some : goal.read_keyword-returns-in-Ok-Some
read_keyword-returns-in-Ok-Some t c =
    let v = doc_view c.args.value.now in
    let at = c.in-Some.ensures.form ∙ ap Some (sym c.form.ensures) in
    let read = rw c.in-Ok-Some.field-0-is at c.in-Ok-Some.ensures.1 in
    (keyword_right c.args.vocabulary c.args.root c.args.key.now v c.form.result at read.0 c.in-Ok-Some.ensures.0, search rules)

pub read_keyword-returns-in-Err : goal.read_keyword-returns-in-Err
read_keyword-returns-in-Err t c =
    let v = doc_view c.args.value.now in
    keyword_refused c.args.vocabulary c.args.root c.args.key.now v c.form.result c.below_key.result (c.in-Some.ensures.form ∙ ap Some (sym c.form.ensures)) (c.below_key.ensures (first (fault_of c.args.vocabulary) (inside c.form.result v)) c.in-Err.ensures)

-- ---- schemas at a place

pub read_element-returns-in-Ok : goal.read_element-returns-in-Ok
read_element-returns-in-Ok t c =
    (schema_right (fault_of c.args.vocabulary) (faults_placed c.args.vocabulary) (index_place [] c.args.i) (doc_view c.args.item.now) c.in-Ok.ensures.0, c.in-Ok.ensures.1)

pub read_element-returns-in-Err : goal.read_element-returns-in-Err
read_element-returns-in-Err t c =
    schema_refused (fault_of c.args.vocabulary) (faults_placed c.args.vocabulary) (index_place [] c.args.i) (doc_view c.args.item.now) c.below_index.result (c.below_index.ensures _ c.in-Err.ensures)

pub read_entry-returns-in-Ok : goal.read_entry-returns-in-Ok
read_entry-returns-in-Ok t c =
    (schema_right (fault_of c.args.vocabulary) (faults_placed c.args.vocabulary) (key_place [] c.args.name.now) (doc_view c.args.value.now) c.in-Ok.ensures.0, c.in-Ok.ensures.1)

pub read_entry-returns-in-Err : goal.read_entry-returns-in-Err
read_entry-returns-in-Err t c =
    schema_refused (fault_of c.args.vocabulary) (faults_placed c.args.vocabulary) (key_place [] c.args.name.now) (doc_view c.args.value.now) c.below_key.result (c.below_key.ensures _ c.in-Err.ensures)

-- ---- the schemas of an object

pub read_map-returns-in_err-schema : goal.read_map-returns-in_err-schema
read_map-returns-in_err-schema t c =
    let l = c.loop-key in
    let k = string_bytes c.in-Some.key.now in
    let d = doc_view c.in-Some.value.now in
    let e = c.in_err-schema.field-0.0 in
    let seen = l.invariant.seen ∙ ap (λ es. first (fault_of c.args.vocabulary) (named_visits [] (object_view es))) c.in-Some.ensures.steps in
    let mine = subst (λ n. Refuses e (first (fault_of c.args.vocabulary) (visits false (key_place [] n) d))) c.deref.ensures c.in_err-schema.ensures in
    let whole = refuses_at (fault_of c.args.vocabulary) e (visits false (key_place [] k) d) (named_visits [] (object_view c.next.new.self)) _ seen mine in
    search rules

pub read_map-loop-key-preserved : goal.read_map-loop-key-preserved
read_map-loop-key-preserved t c =
    let l = c.loop-key in
    let done = l.invariant.done in
    let e : Entry = (c.in-Some.key.now, c.in-Some.value.now) in
    let left = c.next.new.self in
    let k = string_bytes e.0 in
    let d = doc_view e.1 in
    let schema = c.in_ok-schema.schema in
    let placed = c.in_ok-put.ensures in
    let name = placed.name in
    let all : c.args.members.now.entries ≡ done ++ e ∷ left = l.invariant.all ∙ ap (λ es. done ++ es) c.in-Some.ensures.steps in
    let named : string_bytes name ≡ string_bytes e.0 = placed.named in
    let sorted = subst (λ es. IsStrictlySortedBy string_cmp (keys_of es)) all c.into_iter-key-iterator.ensures.into_iter_gives.5 in
    let grown : c.put.new.schemas.entries ≡ l.schemas.entries ++ (name, schema) ∷ [] = placed.entries ∙ insert_last l.schemas.entries done e left name schema l.invariant.same named sorted in
    let right : first (fault_of c.args.vocabulary) (visits false (key_place [] k) d) ≡ None = ap (λ n. first (fault_of c.args.vocabulary) (visits false (key_place [] n) d)) (sym c.deref.ensures) ∙ c.in_ok-schema.ensures.0 in record {
      done = done ++ e ∷ [];
      all = all ∙ sym (append_assoc done (e ∷ []) left);
      same = ap texts grown ∙ texts_more l.schemas.entries done e name schema l.invariant.same named;
      seen = l.invariant.seen ∙ ap (λ es. first (fault_of c.args.vocabulary) (named_visits [] (object_view es))) c.in-Some.ensures.steps ∙ first_past (fault_of c.args.vocabulary) (visits false (key_place [] k) d) (named_visits [] (object_view left)) right;
      made = ap (λ es. members_of (definitions_view es)) grown ∙ trimmed_named-push l.schemas.entries done name schema e l.invariant.made named c.in_ok-schema.ensures.1;
    }

-- ---- the schemas of an array

pub read_list-returns-in_err-schema : goal.read_list-returns-in_err-schema
read_list-returns-in_err-schema t c =
    let l = c.loop-i in
    let xs = c.deref-item-items.result.now in
    let x = c.item-item.result in
    let e = c.in_err-schema.field-0.0 in
    let left : drop l.i xs ≡ x ∷ drop (l.i + 1) xs = drop_at xs l.i x c.loop-i-test.true c.item-item.is in
    let seen = l.invariant.seen ∙ ap (λ es. first (fault_of c.args.vocabulary) (element_visits [] l.i (list_view es))) left in
    let whole = refuses_at (fault_of c.args.vocabulary) e (visits false (index_place [] l.i) (doc_view x)) (element_visits [] (suc l.i) (list_view (drop (l.i + 1) xs))) _ seen c.in_err-schema.ensures in
    search rules

pub read_list-loop-i-preserved : goal.read_list-loop-i-preserved
read_list-loop-i-preserved t c =
    let l = c.loop-i in
    let xs = c.deref-item-items.result.now in
    let x = c.item-item.result in
    let s = c.in_ok-schema.schema in
    let left : drop l.i xs ≡ x ∷ drop (l.i + 1) xs = drop_at xs l.i x c.loop-i-test.true c.item-item.is in
    let rest = list_view (drop (l.i + 1) xs) in record {
      seen = l.invariant.seen ∙ ap (λ es. first (fault_of c.args.vocabulary) (element_visits [] l.i (list_view es))) left
          ∙ first_past (fault_of c.args.vocabulary) (visits false (index_place [] l.i) (doc_view x)) (element_visits [] (suc l.i) rest) c.in_ok-schema.ensures.0
          ∙ ap (λ n. first (fault_of c.args.vocabulary) (element_visits [] n rest)) (sym (add-one l.i));
      made = ap (λ v. documents_of (schemas_view v)) c.in_ok-push.ensures.items
          ∙ trimmed_elements-push l.schemas.items (take l.i xs) s x l.invariant.made c.in_ok-schema.ensures.1
          ∙ ap (λ es. trimmed_elements (list_view es)) (sym (take_at xs l.i x c.loop-i-test.true c.item-item.is));
    }

pub read_some-returns-in_ok-read_list-in-List : goal.read_some-returns-in_ok-read_list-in-List
read_some-returns-in_ok-read_list-in-List t c =
    let xs = c.in-List.items.items in
    let some : is_nil xs ≡ false = not_nil xs _ c.in-List.items.ok.0 (sym c.is_empty.ensures ∙ c.if-is_empty.false) in
    let viewed = ap doc_view c.in-List.is ∙ view-List c.in-List.items in
    (ap (λ v. first (fault_of c.args.vocabulary) (list_visits [] v)) viewed ∙ c.in_ok-read_list-in-List.ensures.0, some_read c.read_list.new.schemas xs (doc_view c.args.value.now) viewed some c.in_ok-read_list-in-List.ensures.1)

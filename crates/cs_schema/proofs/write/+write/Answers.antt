use Rattle.std.proofs.Common.{◌≡◌, ◌+◌, add-one, drop-cons, get_or, refl, ap₂, [], ◌∷◌, ◌++◌, Ok, Some, String, Global, string_bytes, string_cmp, map, take, drop, sym, ap, ◌∙◌, subst, append_assoc, append-nil}
use Rattle.std.proofs.lemmas.List.{take_all}
use Rattle.std.specs.List.Sorted.{IsStrictlySortedBy}
use Rattle.std.specs.Map.{keys_of}
use Rattle.cs_document.specs.Document.{list, object}
use Rattle.cs_document.specs.View.{doc_view, object_view, documents_of, members_of}
use Rattle.cs_document.proofs.Views.{view-List, view-Object}
use Rattle.cs_document.proofs.Maps.{texts, insert_last, texts_more, take_at}
use Rattle.cs_profile.specs.SchemaDocument.{schema_view, definitions_view, slots_of}
use Rattle.cs_profile.specs.Keywords.{all_keywords}
use Rattle.cs_profile.specs.declared.keyword.Keyword.TheVariants as keyword
use Rattle.cs_schema.specs.Writing.{put_some, put_all, slots_for}
use Rattle.cs_profile.specs.declared.schema.Schema.{Schema}
use Rattle.cs_schema.proofs.Walks.{not_nil}
use Rattle.cs_schema.proofs.Writing.{all_put, written, mapped_more, some_listed, members_of-push, some_named, not_empty}
use Rattle.cs_schema.proofs.write.+write.Goals as goal

pub keywords_doc-loop-keyword-init : goal.keywords_doc-loop-keyword-init
keywords_doc-loop-keyword-init t c =
    let ss = slots_of c.args.keywords.now in
    ap (λ es. put_all (slots_for ss all_keywords) (object_view es)) c.new-members.ensures.empty ∙ all_put c.args.keywords.now

pub keywords_doc-loop-keyword-preserved : goal.keywords_doc-loop-keyword-preserved
keywords_doc-loop-keyword-preserved t c =
    let l = c.loop-keyword in
    let i = l.keyword-index in
    let ss = slots_of c.args.keywords.now in
    let w = get_or all_keywords i keyword.Comment in
    let left : drop i all_keywords ≡ w ∷ drop (i + 1) all_keywords = rw (add-one, drop-cons all_keywords i keyword.Comment c.loop-keyword-test.true) refl in
    let rest = slots_for ss (drop (i + 1) all_keywords) in
    let old = object_view l.members.entries in
    ap (put_all rest) (c.in_ok-set.ensures ∙ ap₂ (λ n o. put_some n o old) c.name.ensures c.in_ok-value.ensures)
    ∙ sym (ap (λ ws. put_all (slots_for ss ws) old) left) ∙ l.invariant

-- ---- each keyword

pub keyword_doc-returns-in-Ref : goal.keyword_doc-returns-in-Ref
keyword_doc-returns-in-Ref t c = written keyword.Ref c.args.keyword c.in-Ref.is c.args.keywords.now c.reference_doc.result c.reference_doc.ensures

pub keyword_doc-returns-in-AdditionalProperties : goal.keyword_doc-returns-in-AdditionalProperties
keyword_doc-returns-in-AdditionalProperties t c = written keyword.AdditionalProperties c.args.keyword c.in-AdditionalProperties.is c.args.keywords.now c.option_doc.result c.option_doc.ensures

pub keyword_doc-returns-in-AllOf : goal.keyword_doc-returns-in-AllOf
keyword_doc-returns-in-AllOf t c = written keyword.AllOf c.args.keyword c.in-AllOf.is c.args.keywords.now c.list_doc.result c.list_doc.ensures

pub keyword_doc-returns-in-AnyOf : goal.keyword_doc-returns-in-AnyOf
keyword_doc-returns-in-AnyOf t c = written keyword.AnyOf c.args.keyword c.in-AnyOf.is c.args.keywords.now c.list_doc-in-AnyOf.result c.list_doc-in-AnyOf.ensures

pub keyword_doc-returns-in-Const : goal.keyword_doc-returns-in-Const
keyword_doc-returns-in-Const t c = written keyword.Const c.args.keyword c.in-Const.is c.args.keywords.now c.equal_doc.result c.equal_doc.ensures

pub keyword_doc-returns-in-Enum : goal.keyword_doc-returns-in-Enum
keyword_doc-returns-in-Enum t c = written keyword.Enum c.args.keyword c.in-Enum.is c.args.keywords.now c.one_of_doc.result c.one_of_doc.ensures

pub keyword_doc-returns-in-ExclusiveMaximum : goal.keyword_doc-returns-in-ExclusiveMaximum
keyword_doc-returns-in-ExclusiveMaximum t c = written keyword.ExclusiveMaximum c.args.keyword c.in-ExclusiveMaximum.is c.args.keywords.now (Ok c.integer_doc.result) c.integer_doc.ensures

pub keyword_doc-returns-in-ExclusiveMinimum : goal.keyword_doc-returns-in-ExclusiveMinimum
keyword_doc-returns-in-ExclusiveMinimum t c = written keyword.ExclusiveMinimum c.args.keyword c.in-ExclusiveMinimum.is c.args.keywords.now (Ok c.integer_doc-in-ExclusiveMinimum.result) c.integer_doc-in-ExclusiveMinimum.ensures

pub keyword_doc-returns-in-Items : goal.keyword_doc-returns-in-Items
keyword_doc-returns-in-Items t c = written keyword.Items c.args.keyword c.in-Items.is c.args.keywords.now c.option_doc-in-Items.result c.option_doc-in-Items.ensures

pub keyword_doc-returns-in-Maximum : goal.keyword_doc-returns-in-Maximum
keyword_doc-returns-in-Maximum t c = written keyword.Maximum c.args.keyword c.in-Maximum.is c.args.keywords.now (Ok c.integer_doc-in-Maximum.result) c.integer_doc-in-Maximum.ensures

pub keyword_doc-returns-in-MaxItems : goal.keyword_doc-returns-in-MaxItems
keyword_doc-returns-in-MaxItems t c = written keyword.MaxItems c.args.keyword c.in-MaxItems.is c.args.keywords.now (Ok c.integer_doc-in-MaxItems.result) c.integer_doc-in-MaxItems.ensures

pub keyword_doc-returns-in-MaxLength : goal.keyword_doc-returns-in-MaxLength
keyword_doc-returns-in-MaxLength t c = written keyword.MaxLength c.args.keyword c.in-MaxLength.is c.args.keywords.now (Ok c.integer_doc-in-MaxLength.result) c.integer_doc-in-MaxLength.ensures

pub keyword_doc-returns-in-MaxProperties : goal.keyword_doc-returns-in-MaxProperties
keyword_doc-returns-in-MaxProperties t c = written keyword.MaxProperties c.args.keyword c.in-MaxProperties.is c.args.keywords.now (Ok c.integer_doc-in-MaxProperties.result) c.integer_doc-in-MaxProperties.ensures

pub keyword_doc-returns-in-MinLength : goal.keyword_doc-returns-in-MinLength
keyword_doc-returns-in-MinLength t c = written keyword.MinLength c.args.keyword c.in-MinLength.is c.args.keywords.now (Ok c.integer_doc-in-MinLength.result) c.integer_doc-in-MinLength.ensures

pub keyword_doc-returns-in-MinProperties : goal.keyword_doc-returns-in-MinProperties
keyword_doc-returns-in-MinProperties t c = written keyword.MinProperties c.args.keyword c.in-MinProperties.is c.args.keywords.now (Ok c.integer_doc-in-MinProperties.result) c.integer_doc-in-MinProperties.ensures

pub keyword_doc-returns-in-MinItems : goal.keyword_doc-returns-in-MinItems
keyword_doc-returns-in-MinItems t c = written keyword.MinItems c.args.keyword c.in-MinItems.is c.args.keywords.now (Ok c.integer_doc-in-MinItems.result) c.integer_doc-in-MinItems.ensures

pub keyword_doc-returns-in-Minimum : goal.keyword_doc-returns-in-Minimum
keyword_doc-returns-in-Minimum t c = written keyword.Minimum c.args.keyword c.in-Minimum.is c.args.keywords.now (Ok c.integer_doc-in-Minimum.result) c.integer_doc-in-Minimum.ensures

pub keyword_doc-returns-in-Not : goal.keyword_doc-returns-in-Not
keyword_doc-returns-in-Not t c = written keyword.Not c.args.keyword c.in-Not.is c.args.keywords.now c.option_doc-in-Not.result c.option_doc-in-Not.ensures

pub keyword_doc-returns-in-PrefixItems : goal.keyword_doc-returns-in-PrefixItems
keyword_doc-returns-in-PrefixItems t c = written keyword.PrefixItems c.args.keyword c.in-PrefixItems.is c.args.keywords.now c.list_doc-in-PrefixItems.result c.list_doc-in-PrefixItems.ensures

pub keyword_doc-returns-in-Properties : goal.keyword_doc-returns-in-Properties
keyword_doc-returns-in-Properties t c = written keyword.Properties c.args.keyword c.in-Properties.is c.args.keywords.now c.map_doc.result c.map_doc.ensures

pub keyword_doc-returns-in-Required : goal.keyword_doc-returns-in-Required
keyword_doc-returns-in-Required t c = written keyword.Required c.args.keyword c.in-Required.is c.args.keywords.now c.texts_doc.result c.texts_doc.ensures

pub keyword_doc-returns-in-Type : goal.keyword_doc-returns-in-Type
keyword_doc-returns-in-Type t c = written keyword.Type c.args.keyword c.in-Type.is c.args.keywords.now c.kind_doc.result c.kind_doc.ensures

-- ---- lists and maps of schemas

pub list_doc-loop-schema-preserved : goal.list_doc-loop-schema-preserved
list_doc-loop-schema-preserved t c =
    let l = c.loop-schema in
    let xs = c.deref-schema-items.result.now in
    let x = c.schema-item.result in
    ap (map doc_view) c.in_ok-push.ensures.items
    ∙ mapped_more doc_view schema_view l.docs.items (take l.schema-index xs) _ x l.invariant c.in_ok-schema_doc.ensures
    ∙ ap (map schema_view) (sym (take_at xs l.schema-index x c.loop-schema-test.true c.schema-item.is))

pub list_doc-returns : goal.list_doc-returns
list_doc-returns t c =
    let l = c.loop-schema in
    let xs = c.args.schemas.now.items in
    let all = take_all l.schema-index c.deref-schema-items.result.now c.loop-schema-test.false ∙ c.deref-schema-items.ensures.value in
    ap Some (view-List l.docs ∙ ap (λ ds. list (documents_of ds)) (l.invariant ∙ ap (map schema_view) all))
    ∙ sym (some_listed schema_view xs (not_nil xs _ c.args.schemas.now.ok.0 (sym c.is_empty.ensures ∙ c.if-is_empty.false)))

pub map_doc-loop-name-preserved : goal.map_doc-loop-name-preserved
map_doc-loop-name-preserved t c =
    let l = c.loop-name in
    let done = l.invariant.done in
    let e : String Global × Schema = (c.in-Some.name.now, c.in-Some.schema.now) in
    let left = c.next.new.self in
    let name = c.in_ok-name.name in
    let doc = c.in_ok-doc.doc in
    let all : c.args.schemas.now.entries ≡ done ++ e ∷ left = l.invariant.all ∙ ap (λ es. done ++ es) c.in-Some.ensures.steps in
    let named : string_bytes name ≡ string_bytes e.0 = c.in_ok-name.ensures.cases in
    let sorted = subst (λ es. IsStrictlySortedBy string_cmp (keys_of es)) all c.into_iter-name-iterator.ensures.into_iter_gives.5 in
    let grown : c.insert.new.self.entries ≡ l.docs.entries ++ (name, doc) ∷ [] = c.in_ok-insert.ensures.entries ∙ insert_last l.docs.entries done e left name doc l.invariant.same named sorted in record {
      done = done ++ e ∷ [];
      all = all ∙ sym (append_assoc done (e ∷ []) left);
      same = ap texts grown ∙ texts_more l.docs.entries done e name doc l.invariant.same named;
      made = ap object_view grown ∙ members_of-push l.docs.entries done name doc e l.invariant.made named c.in_ok-doc.ensures;
    }

pub map_doc-returns : goal.map_doc-returns
map_doc-returns t c =
    let l = c.loop-name in
    let all : c.args.schemas.now.entries ≡ l.invariant.done = l.invariant.all ∙ ap (λ es. l.invariant.done ++ es) c.in-None.ensures.steps.0 ∙ append-nil l.invariant.done in
    ap Some (view-Object l.docs ∙ ap object (l.invariant.made ∙ ap (λ es. members_of (definitions_view es)) (sym all)))
    ∙ sym (some_named c.args.schemas.now.entries (not_empty c.is_empty.result c.args.schemas.now.entries c.is_empty.ensures c.if-is_empty.false))

use Rattle.std.proofs.Common.{◌≡◌, [], ◌∷◌, ◌++◌, Some, option_map, string_bytes, string_cmp, String, Global, sym, ap, ◌∙◌, subst, append_assoc, refl}
use Rattle.std.proofs.lemmas.List.{nil_from_length}
use Rattle.std.specs.List.Sorted.{IsStrictlySortedBy}
use Rattle.std.specs.Map.{keys_of}
use Rattle.std.specs.Vec.Iter.{into_iter_items}
use Rattle.serde_json.specs.View.{view, items_view, members_view}
use Rattle.serde_json.specs.declared.value.Value.{Value}
use Rattle.cs_json.specs.Texts.{documents_of, members_of}
use Rattle.cs_document.specs.Document.{AreDocuments}
use Rattle.cs_document.specs.View.{list_view}
use Rattle.cs_document.proofs.Maps.{texts, insert_last, texts_more}
use Rattle.cs_document.proofs.Entries.{Entry, ValuesFit, ValuesFit-push, AreMembers-of_sorted}
use Rattle.cs_json.proofs.Documents.{documents_before, documents_before-end, members_before, members_before-end, documents_of-turn, members_of-turn, no_member_before, AreDocuments-push}
use Rattle.cs_json.proofs.read.+read.Goals as goal

pub docs_of-loop-item-preserved : goal.docs_of-loop-item-preserved
docs_of-loop-item-preserved t c =
    let l = c.loop-item in
    let d = c.in_ok-doc_of.field-0 in
    let left = into_iter_items c.next.new.self in
    let turn = documents_of-turn l.found.items d (view c.in-Some.item) (items_view left) c.in_ok-doc_of.ensures.value in record {
      rest = l.invariant.rest ∙ ap (λ vs. option_map (documents_before l.found.items) (documents_of (items_view vs))) c.in-Some.ensures.steps.0 ∙ turn
          ∙ ap (λ ds. option_map (documents_before ds) (documents_of (items_view left))) (sym c.in_ok-push.ensures.items);
      profile = subst (λ ds. AreDocuments (list_view ds)) (sym c.in_ok-push.ensures.items) (AreDocuments-push l.found.items d l.invariant.profile c.in_ok-doc_of.ensures.document);
    }

pub docs_of-returns-clause-value : goal.docs_of-returns-clause-value
docs_of-returns-clause-value t c =
    let l = c.loop-item in
    let none : into_iter_items l.item-iterator ≡ [] = nil_from_length (into_iter_items l.item-iterator) (sym l.item-iterator.rest.ok.0 ∙ c.in-None.ensures.steps.0) in
    l.invariant.rest ∙ ap (λ vs. option_map (documents_before l.found.items) (documents_of (items_view vs))) none ∙ ap Some (documents_before-end l.found.items)

pub members_of-loop-key-init : goal.members_of-loop-key-init
members_of-loop-key-init t c =
    let all = c.into_iter-key-iterator.ensures.into_iter_gives.0 in
    let none : c.new-found.result.entries ≡ [] = c.new-found.ensures.empty in record {
      done = [];
      all = sym all;
      same = ap texts none;
      ordered = c.new-found.ensures.ordered;
      rest = no_member_before _ ∙ ap (λ es. option_map (members_before es) (members_of (members_view c.args.members.entries))) (sym none)
          ∙ ap (λ es. option_map (members_before c.new-found.result.entries) (members_of (members_view es))) (sym all);
      fit = subst ValuesFit (sym none) tt;
    }

pub members_of-loop-key-preserved : goal.members_of-loop-key-preserved
members_of-loop-key-preserved t c =
    let l = c.loop-key in
    let done = l.invariant.done in
    let e : String Global × Value = (c.in-Some.key, c.in-Some.member) in
    let left = c.next.new.self in
    let made : Entry = (c.in-Some.key, c.in_ok-doc.doc) in
    let all : c.args.members.entries ≡ done ++ e ∷ left = l.invariant.all ∙ ap (λ es. done ++ es) c.in-Some.ensures.steps in
    let sorted = subst (λ es. IsStrictlySortedBy string_cmp (keys_of es)) all c.into_iter-key-iterator.ensures.into_iter_gives.5 in
    let grown : c.insert.new.self.entries ≡ l.found.entries ++ made ∷ [] = c.in_ok-insert.ensures.entries ∙ insert_last l.found.entries done e left c.in-Some.key c.in_ok-doc.doc l.invariant.same refl sorted in record {
      done = done ++ e ∷ [];
      all = all ∙ sym (append_assoc done (e ∷ []) left);
      same = ap texts grown ∙ texts_more l.found.entries done e c.in-Some.key c.in_ok-doc.doc l.invariant.same refl;
      ordered = c.in_ok-insert.ensures.ordered;
      rest = l.invariant.rest ∙ ap (λ es. option_map (members_before l.found.entries) (members_of (members_view es))) c.in-Some.ensures.steps
          ∙ members_of-turn l.found.entries made (string_bytes e.0) (view e.1) (members_view left) refl c.in_ok-doc.ensures.value
          ∙ ap (λ es. option_map (members_before es) (members_of (members_view left))) (sym grown);
      fit = subst ValuesFit (sym grown) (ValuesFit-push l.found.entries made l.invariant.fit c.in_ok-doc.ensures.document);
    }

pub members_of-returns-clause-value : goal.members_of-returns-clause-value
members_of-returns-clause-value t c =
    let l = c.loop-key in
    l.invariant.rest ∙ ap (λ es. option_map (members_before l.found.entries) (members_of (members_view es))) c.in-None.ensures.steps.0
    ∙ ap Some (members_before-end l.found.entries)

pub members_of-returns-clause-document : goal.members_of-returns-clause-document
members_of-returns-clause-document t c = AreMembers-of_sorted c.loop-key.found.entries c.loop-key.invariant.ordered c.loop-key.invariant.fit

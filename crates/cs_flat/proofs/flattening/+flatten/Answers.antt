use Rattle.std.proofs.Common.{◌≡◌, ◌+◌, [], ◌∷◌, ◌++◌, drop, length, map, string_bytes, IfOk, sym, ap, ◌∙◌, subst, rules}
use Rattle.std.proofs.lemmas.Result.{IfOk-weaker}
use Rattle.cs_document.specs.Document.{list, object, AreDocuments}
use Rattle.cs_document.specs.Opened.{a_list, an_object}
use Rattle.cs_document.specs.View.{doc_view, list_view, object_view}
use Rattle.cs_document.proofs.Entries.{ValuesFit, AreMembers-of_sorted}
use Rattle.cs_document.proofs.Maps.{drop_at}
use Rattle.cs_document.proofs.Views.{view-List, view-Object}
use Rattle.cs_flat.specs.Items.{element_numbers, member_numbers, element_items, member_items}
use Rattle.cs_flat.specs.Pushed.{IsPushed, AreElementsPushed, AreMembersPushed}
use Rattle.cs_flat.specs.View.{entry_of}
use Rattle.cs_flat.proofs.Pushes.{element_items-turn, element_numbers-turn, member_items-turn, member_numbers-turn, elements_pushed-below, list_pushed, members_pushed-below, members_pushed-ascend, object_pushed}
use Rattle.cs_flat.proofs.flattening.+flatten.Goals as goal

pub push_doc-returns-in-List : goal.push_doc-returns-in-List
push_doc-returns-in-List t c =
    subst (λ d. IfOk c.push_list.result (IsPushed c.args.builder.now c.push_list.new.builder d)) (sym (ap doc_view c.in-List.is ∙ view-List c.in-List.elements)) c.push_list.ensures

pub push_doc-returns-in-Object : goal.push_doc-returns-in-Object
push_doc-returns-in-Object t c =
    subst (λ d. IfOk c.push_object.result (IsPushed c.args.builder.now c.push_object.new.builder d)) (sym (ap doc_view c.in-Object.is ∙ view-Object c.in-Object.members)) c.push_object.ensures

pub push_list-list-requires : goal.push_list-list-requires
push_list-list-requires t c =
    let old = c.args.builder.now in
    let inner = c.push_elements.new.builder in
    let ds = list_view c.args.elements.now.items in
    elements_pushed-below old inner c.deref.result.now ds
    (subst (λ ns. AreElementsPushed old inner ds ns c.deref.result.now) c.in_ok-numbers.ensures.items (subst (AreElementsPushed old inner ds c.in_ok-numbers.numbers.items) (sym c.deref.ensures.value) c.in_ok-push_elements.ensures))

pub push_list-returns : goal.push_list-returns
push_list-returns t c =
    let old = c.args.builder.now in
    let inner = c.push_elements.new.builder in
    let ds = list_view c.args.elements.now.items in
    let numbers = c.deref.result.now in
    let within = subst (λ ns. AreElementsPushed old inner ds ns c.deref.result.now) c.in_ok-numbers.ensures.items (subst (AreElementsPushed old inner ds c.in_ok-numbers.numbers.items) (sym c.deref.ensures.value) c.in_ok-push_elements.ensures) in
    IfOk-weaker c.list.result (λ n. (n ≡ length inner) × (c.list.new.self ≡ inner ++ a_list numbers ∷ [])) (IsPushed old c.list.new.self (list ds)) (list_pushed old inner numbers ds within c.list.new.self) c.list.ensures

pub push_object-object-requires-clause-ascends : goal.push_object-object-requires-clause-ascends
push_object-object-requires-clause-ascends t c =
    let old = c.args.builder.now in
    let inner = c.push_members.new.builder in
    let ms = object_view c.args.members.now.entries in
    members_pushed-ascend old inner (map entry_of c.deref.result.now) ms
    (subst (λ es. AreMembersPushed old inner ms (map entry_of es) (map entry_of c.deref.result.now)) c.in_ok-entries.ensures.items (subst (λ es. AreMembersPushed old inner ms (map entry_of c.in_ok-entries.entries.items) (map entry_of es)) (sym c.deref.ensures.value) c.in_ok-push_members.ensures))

pub push_object-object-requires-clause-below : goal.push_object-object-requires-clause-below
push_object-object-requires-clause-below t c =
    let old = c.args.builder.now in
    let inner = c.push_members.new.builder in
    let ms = object_view c.args.members.now.entries in
    members_pushed-below old inner (map entry_of c.deref.result.now) ms
    (subst (λ es. AreMembersPushed old inner ms (map entry_of es) (map entry_of c.deref.result.now)) c.in_ok-entries.ensures.items (subst (λ es. AreMembersPushed old inner ms (map entry_of c.in_ok-entries.entries.items) (map entry_of es)) (sym c.deref.ensures.value) c.in_ok-push_members.ensures))

pub push_object-returns : goal.push_object-returns
push_object-returns t c =
    let old = c.args.builder.now in
    let inner = c.push_members.new.builder in
    let ms = object_view c.args.members.now.entries in
    let numbers = map entry_of c.deref.result.now in
    let within = subst (λ es. AreMembersPushed old inner ms (map entry_of es) (map entry_of c.deref.result.now)) c.in_ok-entries.ensures.items (subst (λ es. AreMembersPushed old inner ms (map entry_of c.in_ok-entries.entries.items) (map entry_of es)) (sym c.deref.ensures.value) c.in_ok-push_members.ensures) in
    IfOk-weaker c.object.result (λ n. (n ≡ length inner) × (c.object.new.self ≡ inner ++ an_object numbers ∷ [])) (IsPushed old c.object.new.self (object ms)) (object_pushed old inner numbers ms within c.object.new.self) c.object.ensures

pub push_elements-loop-doc-preserved : goal.push_elements-loop-doc-preserved
push_elements-loop-doc-preserved t c =
    let l = c.loop-doc in
    let old = c.args.builder.now in
    let before = l.builder in
    let after = c.push_doc.new.builder in
    let d = c.doc-item.result in
    let rest = drop (l.doc-index + 1) c.deref-doc-items.result.now in
    let left : drop l.doc-index c.deref-doc-items.result.now ≡ d ∷ rest = drop_at c.deref-doc-items.result.now l.doc-index d c.loop-doc-test.true c.doc-item.is in
    let ds = list_view c.deref-doc-items.result.now in
    let grown = c.in_ok-number.ensures.items in record {
      items = element_items-turn (old ++ element_items (length old) ds) before after (doc_view d) (list_view rest)
          (l.invariant.items ∙ ap (λ xs. before ++ element_items (length before) (list_view xs)) left) grown;
      numbers = element_numbers-turn (c.args.numbers.now.items ++ element_numbers (length old) ds) l.numbers.items before after c.in_ok-number.number (doc_view d) (list_view rest)
          (l.invariant.numbers ∙ ap (λ xs. l.numbers.items ++ element_numbers (length before) (list_view xs)) left) c.in_ok-number.ensures.number grown
          ∙ ap (λ ns. ns ++ element_numbers (length after) (list_view rest)) (sym c.in_ok-push.ensures.items);
      profile = λ more. l.invariant.profile (subst (λ xs. AreDocuments (list_view xs)) (sym left) (c.in_ok-number.ensures.document, more));
    }

pub push_members-loop-key-preserved : goal.push_members-loop-key-preserved
push_members-loop-key-preserved t c =
    let l = c.loop-key in
    let old = c.args.builder.now in
    let before = l.builder in
    let after = c.push_doc.new.builder in
    let rest = object_view c.next.new.self in
    let key = string_bytes c.in-Some.key.now in
    let d = doc_view c.in-Some.doc.now in
    let ms = object_view c.args.members.now.entries in
    let left = c.in-Some.ensures.steps in
    let keyed = c.as_str.ensures.value in
    let grown = c.in_ok-number.ensures.items in record {
      items = member_items-turn (old ++ member_items (length old) ms) before after key d rest
          (l.invariant.items ∙ ap (λ es. before ++ member_items (length before) (object_view es)) left) grown;
      numbers = member_numbers-turn (map entry_of c.args.entries.now.items ++ member_numbers (length old) ms) l.entries.items before after (c.as_str.result, c.in_ok-number.number) key d rest
          (l.invariant.numbers ∙ ap (λ es. map entry_of l.entries.items ++ member_numbers (length before) (object_view es)) left) keyed c.in_ok-number.ensures.number grown
          ∙ ap (λ ns. map entry_of ns ++ member_numbers (length after) rest) (sym c.in_ok-push.ensures.items);
      fit = λ more. l.invariant.fit (subst ValuesFit (sym left) (c.in_ok-number.ensures.document, more));
    }

pub push_members-returns : goal.push_members-returns
push_members-returns t c =
    let l = c.loop-key in
    let all = l.invariant.fit (subst ValuesFit (sym c.in-None.ensures.steps.0) tt) in record {
      items = search rules;
      numbers = search rules;
      documents = AreMembers-of_sorted c.args.members.now.entries c.into_iter-key-iterator.ensures.into_iter_gives.5 all;
    }

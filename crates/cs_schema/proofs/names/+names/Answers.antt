use Rattle.std.proofs.Common.{◌≡◌, suc, add-one, ◌+◌, false, [], ◌∷◌, None, Some, option_map, drop, string_bytes, sym, ap, ◌∙◌, subst, rules}
use Rattle.cs_document.specs.View.{doc_view, list_view, object_view}
use Rattle.cs_document.proofs.Maps.{drop_at}
use Rattle.cs_profile.specs.Places.{at_key as key_place, at_index as index_place}
use Rattle.cs_profile.specs.Profile.{first, undefined_at, visits, member_visits, element_visits, named_visits}
use Rattle.cs_profile.specs.Values.{keyword_visits}
use Rattle.cs_profile.proofs.Walks.{first_past}
use Rattle.cs_schema.specs.Reading.{Refuses, below, is_defined_in}
use Rattle.cs_schema.proofs.Placed.{names_placed}
use Rattle.cs_schema.proofs.Keyed.{schema_right, schema_refused}
use Rattle.cs_schema.proofs.Named.{keyword_named}
use Rattle.cs_schema.proofs.Walks.{refuses_at}
use Rattle.cs_schema.proofs.names.+names.Goals as goal

pub check_members-returns-in_err-check_keyword-clause-refused : goal.check_members-returns-in_err-check_keyword-clause-refused
check_members-returns-in_err-check_keyword-clause-refused t c =
    let f = undefined_at (is_defined_in c.args.definitions.now.entries) in
    let root = c.args.root in
    let k = string_bytes c.in-Some.key.now in
    let d = doc_view c.in-Some.value.now in
    let e = c.in_err-check_keyword.field-0.0 in
    let seen = c.loop-key.invariant ∙ ap (λ es. first f (member_visits root [] (object_view es))) c.in-Some.ensures.steps in
    let named : c.deref.result.now ≡ k = c.deref.ensures in
    let mine = subst (λ n. Refuses e (first f (keyword_visits root [] n d))) named c.in_err-check_keyword.ensures.refused in
    let whole = refuses_at f e (keyword_visits root [] k d) (member_visits root [] (object_view c.next.new.self)) _ seen mine in
    search rules

pub check_members-loop-key-preserved : goal.check_members-loop-key-preserved
check_members-loop-key-preserved t c =
    let f = undefined_at (is_defined_in c.args.definitions.now.entries) in
    let root = c.args.root in
    let k = string_bytes c.in-Some.key.now in
    let d = doc_view c.in-Some.value.now in
    let right : first f (keyword_visits root [] k d) ≡ None = ap (λ n. first f (keyword_visits root [] n d)) (sym c.deref.ensures) ∙ c.in_ok-check_keyword.ensures.accepted in
    c.loop-key.invariant ∙ ap (λ es. first f (member_visits root [] (object_view es))) c.in-Some.ensures.steps
    ∙ first_past f (keyword_visits root [] k d) (member_visits root [] (object_view c.next.new.self)) right

pub check_list-returns-in-Err-clause-refused : goal.check_list-returns-in-Err-clause-refused
check_list-returns-in-Err-clause-refused t c =
    let known = is_defined_in c.args.definitions.now.entries in
    let f = undefined_at known in
    let l = c.loop-i in
    let xs = c.deref-item-items.result.now in
    let x = c.item-item.result in
    let e = c.below_index.result in
    let left : drop l.i xs ≡ x ∷ drop (l.i + 1) xs = drop_at xs l.i x c.loop-i-test.true c.item-item.is in
    let seen = l.invariant ∙ ap (λ es. first f (element_visits [] l.i (list_view es))) left in
    let mine = schema_refused f (names_placed known) (index_place [] l.i) (doc_view x) e (c.below_index.ensures _ c.in-Err.ensures.refused) in
    refuses_at f e (visits false (index_place [] l.i) (doc_view x)) (element_visits [] (suc l.i) (list_view (drop (l.i + 1) xs))) _ seen mine

pub check_list-loop-i-preserved : goal.check_list-loop-i-preserved
check_list-loop-i-preserved t c =
    let known = is_defined_in c.args.definitions.now.entries in
    let f = undefined_at known in
    let l = c.loop-i in
    let xs = c.deref-item-items.result.now in
    let x = c.item-item.result in
    let left : drop l.i xs ≡ x ∷ drop (l.i + 1) xs = drop_at xs l.i x c.loop-i-test.true c.item-item.is in
    let right : first f (visits false (index_place [] l.i) (doc_view x)) ≡ None = schema_right f (names_placed known) (index_place [] l.i) (doc_view x) c.in-Ok.ensures.accepted in
    let rest = list_view (drop (l.i + 1) xs) in
    l.invariant ∙ ap (λ es. first f (element_visits [] l.i (list_view es))) left
    ∙ first_past f (visits false (index_place [] l.i) (doc_view x)) (element_visits [] (suc l.i) rest) right
    ∙ ap (λ n. first f (element_visits [] n rest)) (sym (add-one l.i))

pub check_map-returns-in-Err-clause-refused : goal.check_map-returns-in-Err-clause-refused
check_map-returns-in-Err-clause-refused t c =
    let known = is_defined_in c.args.definitions.now.entries in
    let f = undefined_at known in
    let k = string_bytes c.in-Some.key.now in
    let d = doc_view c.in-Some.value.now in
    let e = c.below_key.result in
    let seen = c.loop-key.invariant ∙ ap (λ es. first f (named_visits [] (object_view es))) c.in-Some.ensures.steps in
    let mine = schema_refused f (names_placed known) (key_place [] k) d e
    (subst (λ n. Refuses e (option_map (below (key_place [] n)) (first f (visits false [] d)))) c.deref.ensures (c.below_key.ensures _ c.in-Err.ensures.refused)) in
    refuses_at f e (visits false (key_place [] k) d) (named_visits [] (object_view c.next.new.self)) _ seen mine

pub check_map-loop-key-preserved : goal.check_map-loop-key-preserved
check_map-loop-key-preserved t c =
    let known = is_defined_in c.args.definitions.now.entries in
    let f = undefined_at known in
    let k = string_bytes c.in-Some.key.now in
    let d = doc_view c.in-Some.value.now in
    let right : first f (visits false (key_place [] k) d) ≡ None = schema_right f (names_placed known) (key_place [] k) d c.in-Ok.ensures.accepted in
    c.loop-key.invariant ∙ ap (λ es. first f (named_visits [] (object_view es))) c.in-Some.ensures.steps
    ∙ first_past f (visits false (key_place [] k) d) (named_visits [] (object_view c.next.new.self)) right

pub check_keyword-returns-in-Ok-clause-accepted : goal.check_keyword-returns-in-Ok-clause-accepted
check_keyword-returns-in-Ok-clause-accepted t c =
    let known = is_defined_in c.args.definitions.now.entries in
    let k = c.args.key.now in
    let v = doc_view c.args.value.now in
    let at = c.in-Some.ensures.form ∙ ap Some (sym c.form.ensures) in
    keyword_named known c.args.root k v c.form.result at (sym c.eq.ensures ∙ c.if-eq.false) ∙ ap (option_map (below (key_place [] k))) c.in-Ok.ensures.accepted

pub check_keyword-returns-in-Err-clause-refused : goal.check_keyword-returns-in-Err-clause-refused
check_keyword-returns-in-Err-clause-refused t c =
    let known = is_defined_in c.args.definitions.now.entries in
    let k = c.args.key.now in
    let v = doc_view c.args.value.now in
    let e = c.below_key.result in
    let at = c.in-Some.ensures.form ∙ ap Some (sym c.form.ensures) in
    subst (Refuses e) (sym (keyword_named known c.args.root k v c.form.result at (sym c.eq.ensures ∙ c.if-eq.false))) (c.below_key.ensures _ c.in-Err.ensures.refused)

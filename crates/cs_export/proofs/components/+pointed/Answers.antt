use Rattle.std.proofs.Common.{◌≡◌, false, ◌∷◌, ◌++◌, [], length, arith, refl, sym, ap, ◌∙◌, subst}
use Rattle.std.specs.Vec.Iter.{into_iter_items}
use Rattle.cs_document.specs.Document.{document}
use Rattle.cs_document.specs.View.{doc_view, list_view}
use Rattle.cs_document.proofs.Entries.{Entry}
use Rattle.cs_profile.specs.Shapes.{form_at}
use Rattle.cs_describe.proofs.Joined.{IsMade, made_more, joined, joined_push, joined_none, nothing_left}
use Rattle.cs_export.specs.Components.{to_component, moved, moved_members, moved_value, moved_elements, moved_named}
use Rattle.cs_export.proofs.components.+pointed.Goals as goal

pub pointed_members-loop-key-preserved : goal.pointed_members-loop-key-preserved
pointed_members-loop-key-preserved t c =
    let l = c.loop-key in
    let all = c.args.members.entries in
    let left = c.next.new.self in
    let key = c.in-Some.key in
    let v = c.in-Some.value in
    let e : Entry = (key, v) in
    let steps : l.key-iterator ≡ e ∷ left = c.in-Some.ensures.steps in
    let m = subst (λ es. IsMade (moved_members to_component) all es l.pointing.entries) steps l.invariant in
    let is = c.in_ok-value.ensures ∙ ap (λ o. moved_value to_component o (doc_view v)) (c.form_of.ensures ∙ ap (form_at false) c.as_str.ensures.value) in
    subst (IsMade (moved_members to_component) all left) (sym c.in_ok-insert.ensures.entries)
    (made_more (moved_members to_component) (λ k v. moved_value to_component (form_at false k) v) refl (λ k v ms. refl) all left l.pointing.entries key c.in_ok-value.value v c.into_iter-key-iterator.ensures.into_iter_gives.5 m is)

pub pointed_named-loop-name-preserved : goal.pointed_named-loop-name-preserved
pointed_named-loop-name-preserved t c =
    let l = c.loop-name in
    let all = c.args.schemas.entries in
    let left = c.next.new.self in
    let name = c.in-Some.name in
    let v = c.in-Some.schema in
    let e : Entry = (name, v) in
    let steps : l.name-iterator ≡ e ∷ left = c.in-Some.ensures.steps in
    let m = subst (λ es. IsMade (moved_named to_component) all es l.pointing.entries) steps l.invariant in
    subst (IsMade (moved_named to_component) all left) (sym c.in_ok-insert.ensures.entries)
    (made_more (moved_named to_component) (λ k v. moved to_component v) refl (λ k v ms. refl) all left l.pointing.entries name c.in_ok-schema.schema v c.into_iter-name-iterator.ensures.into_iter_gives.5 m c.in_ok-schema.ensures)

pub pointed_each-loop-schema-preserved : goal.pointed_each-loop-schema-preserved
pointed_each-loop-schema-preserved t c =
    let l = c.loop-schema in
    let x = c.in-Some.schema in
    let y = c.in_ok-schema.schema in
    let left = list_view (into_iter_items c.next.new.self) in
    let steps : into_iter_items l.schema-iterator ≡ x ∷ into_iter_items c.next.new.self = c.in-Some.ensures.steps.0 in
    let is : doc_view y ≡ moved to_component (doc_view x) = c.in_ok-schema.ensures in
    let gone = c.in-Some.ensures.steps.1 in
    let was = l.invariant.long in
    let short = ap length steps in record {
      long = omega arith;
      whole = ap (λ xs. joined (list_view xs) (moved_elements to_component left)) {y = l.pointing.items ++ y ∷ []} c.in_ok-push.ensures.items
          ∙ joined_push l.pointing.items y (moved_elements to_component left)
          ∙ ap (λ d. joined (list_view l.pointing.items) (document d (moved_elements to_component left))) is
          ∙ sym (ap (λ xs. joined (list_view l.pointing.items) (moved_elements to_component (list_view xs))) steps)
          ∙ l.invariant.whole;
    }

pub pointed_each-returns : goal.pointed_each-returns
pointed_each-returns t c =
    let l = c.loop-schema in
    let empty : into_iter_items l.schema-iterator ≡ [] = nothing_left (into_iter_items l.schema-iterator) (sym l.invariant.long ∙ c.in-None.ensures.steps.0) in
    sym (joined_none (list_view l.pointing.items))
    ∙ sym (ap (λ xs. joined (list_view l.pointing.items) (moved_elements to_component (list_view xs))) empty) ∙ l.invariant.whole

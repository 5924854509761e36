use Rattle.std.proofs.Common.{◌≡◌, ◌∷◌, [], length, arith, string_bytes, nat_cmp, option_map, refl, sym, ap, ap₂, ◌∙◌, subst}
use Rattle.std.specs.BTreeMap.{is_at}
use Rattle.std.specs.Cmp.Lexicographic.{slice_cmp}
use Rattle.std.specs.Map.{lookup}
use Rattle.std.specs.Slice.Iter.{iter_rest}
use Rattle.std.specs.Vec.Iter.{into_iter_items}
use Rattle.cs_document.specs.Document.{under, document}
use Rattle.cs_document.specs.View.{doc_view, list_view}
use Rattle.cs_document.proofs.Entries.{Entry}
use Rattle.cs_profile.specs.Keywords.{keywords}
use Rattle.cs_profile.proofs.Pushes.{looked_up}
use Rattle.cs_describe.specs.Described.{labelled_notes, described, described_members, described_value, described_elements, described_named}
use Rattle.cs_describe.proofs.Joined.{IsMade, made_more, joined, joined_push, joined_none, next_notes, nothing_left}
use Rattle.cs_describe.proofs.describe.+describe.Goals as goal

pub describe_members-loop-key-preserved : goal.describe_members-loop-key-preserved
describe_members-loop-key-preserved t c =
    let w = c.args.note in
    let l = c.loop-key in
    let all = c.args.members.entries in
    let left = c.next.new.self in
    let key = c.in-Some.key in
    let v = c.in-Some.value in
    let d = c.in_ok-value.value in
    let notes = c.args.notes.now in
    let e : Entry = (key, v) in
    let steps : l.key-iterator ≡ e ∷ left = c.in-Some.ensures.steps in
    let m = subst (λ es. IsMade (described_members w notes) all es l.found.entries) steps l.invariant in
    let is = c.in_ok-value.ensures ∙ ap (λ o. described_value w o notes (doc_view v)) (c.named.ensures ∙ ap (λ n. under n keywords) c.as_str.ensures.value) in
    subst (IsMade (described_members w notes) all left) (sym c.in_ok-insert.ensures.entries)
    (made_more (described_members w notes) (λ k v. described_value w (under k keywords) notes v) refl (λ k v ms. refl) all left l.found.entries key d v c.into_iter-key-iterator.ensures.into_iter_gives.5 m is)

pub describe_named-loop-key-preserved : goal.describe_named-loop-key-preserved
describe_named-loop-key-preserved t c =
    let w = c.args.note in
    let l = c.loop-key in
    let all = c.args.members.entries in
    let left = c.next.new.self in
    let key = c.in-Some.key in
    let v = c.in-Some.schema in
    let d = c.in_ok-schema.schema in
    let notes = c.args.notes.now.entries in
    let e : Entry = (key, v) in
    let steps : l.key-iterator ≡ e ∷ left = c.in-Some.ensures.steps in
    let m = subst (λ es. IsMade (described_named w notes) all es l.found.entries) steps l.invariant in
    let there = c.get.ensures.value ∙ ap (λ n. lookup (is_at (λ k. slice_cmp nat_cmp n (string_bytes k))) notes) c.as_str.ensures.value ∙ looked_up (string_bytes key) notes in
    let is = c.in_ok-schema.ensures ∙ ap (λ o. described w o (doc_view v)) there in
    subst (IsMade (described_named w notes) all left) (sym c.in_ok-insert.ensures.entries)
    (made_more (described_named w notes) (λ k v. described w (labelled_notes k notes) v) refl (λ k v ms. refl) all left l.found.entries key d v c.into_iter-key-iterator.ensures.into_iter_gives.5 m is)

pub describe_items-loop-item-preserved : goal.describe_items-loop-item-preserved
describe_items-loop-item-preserved t c =
    let w = c.args.note in
    let l = c.loop-item in
    let x = c.in-Some.item in
    let y = c.in_ok-item.item in
    let left = list_view (into_iter_items c.next.new.self) in
    let steps : into_iter_items l.item-iterator ≡ x ∷ into_iter_items c.next.new.self = c.in-Some.ensures.steps.0 in
    let texts = next_notes l.each c.next-in-loop-item.new.self c.next-in-loop-item.result c.next-in-loop-item.ensures.steps in
    let is : doc_view y ≡ described w (option_map (λ n. n.now) c.next-in-loop-item.result) (doc_view x) = c.in_ok-item.ensures in
    let mine = ap₂ (λ d ns. joined (list_view l.found.items) (document d (described_elements w ns left))) (is ∙ ap (λ o. described w o (doc_view x)) (sym texts.0)) (sym texts.1) in
    let whole = l.invariant.whole in
    let gone = c.in-Some.ensures.steps.1 in
    let was = l.invariant.long in
    let short = ap length steps in record {
      long = omega arith;
      whole = ap (λ xs. joined (list_view xs) (described_elements w (iter_rest c.next-in-loop-item.new.self) left)) c.in_ok-push.ensures.items
          ∙ joined_push l.found.items y (described_elements w (iter_rest c.next-in-loop-item.new.self) left)
          ∙ mine
          ∙ sym (ap (λ xs. joined (list_view l.found.items) (described_elements w (iter_rest l.each) (list_view xs))) steps)
          ∙ whole;
    }

pub describe_items-returns : goal.describe_items-returns
describe_items-returns t c =
    let w = c.args.note in
    let l = c.loop-item in
    let empty : into_iter_items l.item-iterator ≡ [] = nothing_left (into_iter_items l.item-iterator) (sym l.invariant.long ∙ c.in-None.ensures.steps.0) in
    sym (joined_none (list_view l.found.items))
    ∙ sym (ap (λ xs. joined (list_view l.found.items) (described_elements w (iter_rest l.each) (list_view xs))) empty) ∙ l.invariant.whole

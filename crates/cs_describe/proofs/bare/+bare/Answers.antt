use Rattle.std.proofs.Common.{◌≡◌, true, false, ◌∷◌, ◌++◌, [], length, string_bytes, arith, refl, sym, ap, ◌∙◌, subst}
use Rattle.std.specs.Vec.Iter.{into_iter_items}
use Rattle.cs_document.specs.Document.{document}
use Rattle.cs_document.specs.View.{doc_view, list_view}
use Rattle.cs_document.proofs.Entries.{Entry}
use Rattle.cs_profile.specs.Shapes.{form_at}
use Rattle.cs_describe.specs.Plain.{is_default, plain_by, values_without, schema_without, elements_without, named_without}
use Rattle.cs_describe.proofs.Joined.{IsMade, made_more, joined, joined_push, joined_none, nothing_left}
use Rattle.cs_describe.proofs.Left.{IsLeft, left_skip, left_more}
use Rattle.cs_describe.proofs.bare.+bare.Goals as goal

pub bare_members-loop-key-preserved-then-not-names_default : goal.bare_members-loop-key-preserved-then-not-names_default
bare_members-loop-key-preserved-then-not-names_default t c =
    let l = c.loop-key in
    let all = c.args.members.entries in
    let left = c.next.new.self in
    let root = c.args.is_root in
    let key = c.in-Some.key in
    let v = c.in-Some.value in
    let e : Entry = (key, v) in
    let steps : l.key-iterator ≡ e ∷ left = c.in-Some.ensures.steps in
    let m = subst (λ es. IsLeft is_default root all es l.found.entries) steps l.invariant in
    let out : is_default (string_bytes key) ≡ false = ap is_default (sym c.as_str.ensures.value) ∙ sym c.if-not-names_default.ensures in
    let is = c.in_ok-value.ensures ∙ ap (λ o. plain_by o (values_without is_default (doc_view v))) (c.form_of-form.ensures ∙ ap (form_at root) c.as_str-then-not-names_default.ensures.value) in
    subst (IsLeft is_default root all left) (sym c.in_ok-insert.ensures.entries)
    (left_more is_default root all left l.found.entries key c.in_ok-value.value v c.into_iter-key-iterator.ensures.into_iter_gives.5 out m is)

pub bare_members-loop-key-preserved : goal.bare_members-loop-key-preserved
bare_members-loop-key-preserved t c =
    let l = c.loop-key in
    let all = c.args.members.entries in
    let left = c.next.new.self in
    let root = c.args.is_root in
    let key = c.in-Some.key in
    let v = c.in-Some.value in
    let e : Entry = (key, v) in
    let steps : l.key-iterator ≡ e ∷ left = c.in-Some.ensures.steps in
    let m = subst (λ es. IsLeft is_default root all es l.found.entries) steps l.invariant in
    let out : is_default (string_bytes key) ≡ true = ap is_default (sym c.as_str.ensures.value) ∙ sym c.if-not-names_default.ensures in
    left_skip is_default root all left l.found.entries key v out m

pub bare_named-loop-name-preserved : goal.bare_named-loop-name-preserved
bare_named-loop-name-preserved t c =
    let l = c.loop-name in
    let all = c.args.schemas.entries in
    let left = c.next.new.self in
    let name = c.in-Some.name in
    let v = c.in-Some.schema in
    let e : Entry = (name, v) in
    let steps : l.name-iterator ≡ e ∷ left = c.in-Some.ensures.steps in
    let m = subst (λ es. IsMade (named_without is_default) all es l.found.entries) steps l.invariant in
    subst (IsMade (named_without is_default) all left) (sym c.in_ok-insert.ensures.entries)
    (made_more (named_without is_default) (λ k v. schema_without is_default v) refl (λ k v ms. refl) all left l.found.entries name c.in_ok-schema.schema v c.into_iter-name-iterator.ensures.into_iter_gives.5 m c.in_ok-schema.ensures)

pub bare_each-loop-schema-preserved : goal.bare_each-loop-schema-preserved
bare_each-loop-schema-preserved t c =
    let l = c.loop-schema in
    let x = c.in-Some.schema in
    let y = c.in_ok-schema.schema in
    let left = list_view (into_iter_items c.next.new.self) in
    let steps : into_iter_items l.schema-iterator ≡ x ∷ into_iter_items c.next.new.self = c.in-Some.ensures.steps.0 in
    let is : doc_view y ≡ schema_without is_default (doc_view x) = c.in_ok-schema.ensures in
    let gone = c.in-Some.ensures.steps.1 in
    let was = l.invariant.long in
    let short = ap length steps in record {
      long = omega arith;
      whole = ap (λ xs. joined (list_view xs) (elements_without is_default left)) {y = l.found.items ++ y ∷ []} c.in_ok-push.ensures.items
          ∙ joined_push l.found.items y (elements_without is_default left)
          ∙ ap (λ d. joined (list_view l.found.items) (document d (elements_without is_default left))) is
          ∙ sym (ap (λ xs. joined (list_view l.found.items) (elements_without is_default (list_view xs))) steps)
          ∙ l.invariant.whole;
    }

pub bare_each-returns : goal.bare_each-returns
bare_each-returns t c =
    let l = c.loop-schema in
    let empty : into_iter_items l.schema-iterator ≡ [] = nothing_left (into_iter_items l.schema-iterator) (sym l.invariant.long ∙ c.in-None.ensures.steps.0) in
    sym (joined_none (list_view l.found.items))
    ∙ sym (ap (λ xs. joined (list_view l.found.items) (elements_without is_default (list_view xs))) empty) ∙ l.invariant.whole

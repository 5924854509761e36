use Rattle.std.proofs.Common.{◌≡◌, ℕ, Bool, false, true, inl, inr, Some, sym, ap, ◌∙◌, subst, true≢false, take_all}
use Rattle.std.specs.Prelude.{IsSomeAnd}
use Rattle.std.specs.List.{list_all}
use Rattle.cs_document.specs.Document.{Document, Entry, entries, under}
use Rattle.cs_question.specs.declared.nodes.Literal.{Literal}
use Rattle.cs_instance.specs.Steps.{field_of}
use Rattle.cs_question.specs.Spread.{SomeOf, AreTaken, IsTaken, IsSuch, others, spread_map}
use Rattle.cs_question.proofs.Some.{some_front, some_back, some_map}
use Rattle.cs_question.proofs.Declared.{for_all, plain_untold, every_untold}
use Rattle.cs_question.proofs.Loops.{some_or}
use Rattle.cs_question.proofs.Taken.{such_under, unmet_one}
use Rattle.cs_question.proofs.maps.field_ways.Goals as goal
use Rattle.cs_question.proofs.maps.field_ways.Goals.{then-not-may_be_absent+in_ok-push-3, else-not-may_be_absent}

-- what a part of a literal that isn't to be met says
part_unmet : (l v : Literal) (r : ℕ) → v ≡ record l { rule = r } → l.holds ≡ false → v.holds ≡ false
part_unmet l v r is e = ap (λ (k : Literal). k.holds) is ∙ e

pub loop-label-preserved : goal.loop-label-preserved
loop-label-preserved c =
    let v = c.part_of-value.result in
    let holds = part_unmet c.args.literal v c.args.field.now.value c.part_of-value.ensures c.requires in
    record {
      kept = λ J s h. subst (AreTaken J s) (sym c.in_ok-push.ensures.items) (some_front (IsTaken J s) c.loop-label.ways.items _ (c.loop-label.invariant.kept J s h));
      taken = λ J ms ls h.
          let s = spread_map ls ms in
          subst (AreTaken J s) (sym c.in_ok-push.ensures.items)
          (some_or (λ k. IsSomeAnd (under k.now ms) (λ y. J v.side v.rule y ≡ false)) c.args.labels.now c.loop-label.label-index _ c.loop-label-test.true (AreTaken J s _)
          (λ k. some_front (IsTaken J s) c.loop-label.ways.items _ (c.loop-label.invariant.taken J ms ls k))
          (λ k. some_back (IsTaken J s) c.loop-label.ways.items _ (inl (such_under J v _ holds k))) h);
    }

pub returns-then-is_for_every_key-clause-kept : goal.returns-then-is_for_every_key-clause-kept
returns-then-is_for_every_key-clause-kept c = λ J s h. subst (AreTaken J s) (sym c.in_ok-push-2.ensures.items) (some_front (IsTaken J s) c.loop-label.ways.items _ (c.loop-label.invariant.kept J s h))

pub returns-then-is_for_every_key-clause-all : goal.returns-then-is_for_every_key-clause-all
returns-then-is_for_every_key-clause-all c = λ J ms are h.
    let s = spread_map c.args.labels.now (entries ms) in
    let v = c.part_of-value.result in
    let holds = part_unmet c.args.literal v c.args.field.now.value c.part_of-value.ensures c.requires in
    let P : Document → Bool = λ y. J v.side v.rule y in
    let untold : list_all (λ (m : Entry Document). P m.1) (entries ms) ≡ false = subst (λ (v : Literal). list_all (λ (m : Entry Document). J v.side v.rule m.1) (entries ms) ≡ false) (sym c.part_of-value.ensures) (sym (for_all (λ y p. J c.args.literal.side p y) (entries ms) (field_of c.args.field.now) (sym c.is_for_every_key.ensures ∙ c.if-is_for_every_key.true)) ∙ h) in
    subst (AreTaken J s) (sym c.in_ok-push-2.ensures.items)
    (elim (every_untold P c.args.labels.now ms are untold) [
      | inl k ↦ some_front (IsTaken J s) c.loop-label.ways.items _ (c.loop-label.invariant.taken J (entries ms) c.args.labels.now (subst (SomeOf (λ l. IsSomeAnd (under l.now (entries ms)) (λ y. P y ≡ false))) (sym (take_all c.loop-label.label-index c.args.labels.now c.loop-label-test.false)) k))
      | inr k ↦ some_back (IsTaken J s) c.loop-label.ways.items _ (inl (some_map (λ y. P y ≡ false) (IsSuch J (Some v)) (λ y f. unmet_one J v y holds f) (others c.args.labels.now (entries ms)) k))
    ])

pub returns-clause-kept : goal.returns-clause-kept
returns-clause-kept c = λ J s h. subst (AreTaken J s) (sym c.in_ok-push-4.ensures.items) (some_front (IsTaken J s) c.if-not-may_be_absent.ways.items _ (elim c.if-not-may_be_absent.branch [
  | then-not-may_be_absent+in_ok-push-3 w ↦ subst (λ v. AreTaken J s v.items) (sym w.ways-is) (subst (AreTaken J s) (sym w.in_ok-push-3.ensures.items) (some_front (IsTaken J s) c.args.ways.now.items _ h))
  | else-not-may_be_absent w ↦ subst (λ v. AreTaken J s v.items) (sym w.ways-is) h
]))

pub returns-clause-all : goal.returns-clause-all
returns-clause-all c = λ J ms are h.
    let s = spread_map c.args.labels.now (entries ms) in
    let o = under c.args.field.now.label.now (entries ms) in
    let is = c.part_of-value.ensures in
    let holds : c.part_of-value.result.holds ≡ false = ap (λ (v : Literal). v.holds) is ∙ c.requires in
    subst (AreTaken J s) (sym c.in_ok-push-4.ensures.items)
    (elim (plain_untold (λ y p. J c.args.literal.side p y) (entries ms) (field_of c.args.field.now) (sym c.is_for_every_key.ensures ∙ c.if-is_for_every_key.false) h) [
      | inl a ↦ some_front (IsTaken J s) c.if-not-may_be_absent.ways.items _ (elim c.if-not-may_be_absent.branch [
        | then-not-may_be_absent+in_ok-push-3 w ↦ subst (λ v. AreTaken J s v.items) (sym w.ways-is) (subst (AreTaken J s) (sym w.in_ok-push-3.ensures.items) (some_back (IsTaken J s) c.args.ways.now.items _ (inl a.0)))
        | else-not-may_be_absent w ↦ absurd (true≢false (sym w.if-not-may_be_absent.false ∙ c.may_be_absent.ensures ∙ a.1))
      ])
      | inr b ↦ some_back (IsTaken J s) c.if-not-may_be_absent.ways.items _ (inl (such_under J c.part_of-value.result o holds (subst (λ (v : Literal). IsSomeAnd o (λ y. J v.side v.rule y ≡ false)) (sym is) b)))
    ])

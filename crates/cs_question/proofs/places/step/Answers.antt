use Rattle.std.proofs.Common.{◌≡◌, Some, inl, inr, sym, ap, subst}
use Rattle.std.specs.Prelude.{is_some, slice_get}
use Rattle.std.specs.List.{AllByRecursion as Each}
use Rattle.cs_question.specs.Spread.{SomeOf, HoldsPlaces, HoldsState, AreTaken, IsTaken, IsBehind}
use Rattle.cs_question.proofs.Listed.{each_got}
use Rattle.cs_question.proofs.Loops.{item_some}
use Rattle.cs_question.proofs.Some.{some_front, some_back, some_parted}
use Rattle.cs_question.proofs.Taken.{behind_or_not}
use Rattle.cs_question.proofs.places.step.Goals as goal

pub returns-in-Some-2 : goal.returns-in-Some-2
returns-in-Some-2 c = λ e ended t s.
    let P = HoldsState t.J s in (
      λ h. subst (SomeOf P) (sym c.in_ok-push-2.ensures.items) (some_front P c.args.states.now.items _ h),
      λ h further rules held. subst (SomeOf P) (sym c.in_ok-push-2.ensures.items) (some_back P c.args.states.now.items _ (inl held)),
    )

pub returns : goal.returns
returns c = λ e ended t s.
    let puts = c.in_ok-push_open.ensures ended t s in (
      puts.0,
      λ h further rules held.
          let all = subst (Each (λ w. AreTaken t.J s w.items)) (sym c.deref-5.ensures.value) rules in
          let ways = each_got (λ w. AreTaken t.J s w.items) c.deref-5.result.now c.in_ok-rule.rule c.in-Some.ways.now all (item_some c.deref-5.result.now c.in_ok-rule.rule c.in-Some.ways c.in-Some.ensures.lookup) in
          let changed = c.in_ok-places.ensures t.J t.n s (subst (HoldsPlaces t.J t.n s) (sym c.deref.ensures.value) h) (subst (Each (IsTaken t.J s)) (sym c.deref-2.ensures.value) held) in
          elim (some_parted (IsTaken t.J s) IsBehind behind_or_not c.in-Some.ways.now.items ways) [
            | inl k ↦ absurd (c.in_ok-asked.ensures (ap is_some c.in_default-2.is) ended t s further (subst (SomeOf _) (sym c.deref-6.ensures.value) k))
            | inr k ↦ puts.1 (subst (HoldsPlaces t.J t.n s) (sym c.deref-7.ensures.value) changed) held (subst (SomeOf _) (sym c.deref-8.ensures.value) k)
          ],
    )

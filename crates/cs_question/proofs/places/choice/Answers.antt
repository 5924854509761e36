use Rattle.std.proofs.Common.{◌≡◌, inl, inr, sym, ◌∙◌, subst, arith}
use Rattle.std.specs.List.{AllByRecursion as Each}
use Rattle.cs_question.specs.Spread.{SomeOf, HoldsState, HoldsPlaces, IsTaken}
use Rattle.cs_question.proofs.Some.{popped_none, popped_one}
use Rattle.cs_question.proofs.places.choice.Goals as goal

pub loop-init : goal.loop-init
loop-init c = λ ended t s h further rules. subst (SomeOf (HoldsState t.J s)) (sym c.in_ok-states.ensures.items) (inl (subst (Each (IsTaken t.J s)) (sym c.in_ok-first.ensures) tt))

pub returns-then-branch : goal.returns-then-branch
returns-then-branch c = λ e ended t s h further rules. c.in_ok-has_dead.ensures c.if-branch.true ended t s (subst (HoldsPlaces t.J t.n s) (sym c.deref-2.ensures.value) h)

pub returns-in_default : goal.returns-in_default
returns-in_default c = λ e ended t s h further rules.
    popped_none (HoldsState t.J s) c.loop.states.items (let v = c.loop.states.ok.0 in let k = c.in_default.ensures.cases.0 in omega (arith, v, k)) (c.loop.invariant ended t s h further rules)

pub loop-preserved : goal.loop-preserved
loop-preserved c = λ ended t s h further rules.
    let puts = c.in_ok-chosen.ensures (sym c.is_some.ensures ∙ c.if-is_some.false) ended t s in
    elim (popped_one (HoldsState t.J s) c.loop.states.items c.pop.new.self.items c.in-Some.state c.in-Some.ensures.items (c.loop.invariant ended t s h further rules)) [
      | inl k ↦ puts.0 k
      | inr k ↦ puts.1 h further rules k
    ]

use Rattle.std.proofs.Common.{◌≡◌, true, inl, inr, sym, ap, ◌∙◌, subst, take_all}
use Rattle.std.specs.List.{list_all}
use Rattle.cs_question.specs.Spread.{SomeOf, IsBehind, IsTaken}
use Rattle.cs_question.proofs.Loops.{some_or}
use Rattle.cs_question.proofs.Taken.{barred_further, no_further, none_behind, not_behind}
use Rattle.cs_question.proofs.places.first_free.Goals as goal
use Rattle.cs_question.proofs.places.first_free.Goals.{in-Behind+in_ok-asked+in_ok-is_shut+else-not-branch, in_default}

pub returns-then-further : goal.returns-then-further
returns-then-further c = λ e ended t s h some. none_behind t.J s c.args.ways.now (λ o k. barred_further t.J t.n c.args.further.now _ c.if-further.true s.further h k) some

pub loop-way-preserved : goal.loop-way-preserved
loop-way-preserved c = λ ended t s h some.
    some_or (λ w. IsBehind w × IsTaken t.J s w) c.args.ways.now c.loop-way.way-index _ c.loop-way-test.true ⊥
    (λ k. c.loop-way.invariant ended t s h k)
    (λ k. elim c.match-way.branch [
      | in-Behind+in_ok-asked+in_ok-is_shut+else-not-branch w ↦
          no_further t.J t.n c.args.table.now.entries.items t c.args.further.now w.in-Behind.more w.in_ok-asked.asked.items
          (λ f g k. w.in_ok-asked.ensures f (ap (list_all f) w.deref.ensures.value ∙ g) k)
          (w.in_ok-is_shut.ensures w.if-not-branch.false ended) s.further h (subst (IsTaken t.J s) w.in-Behind.is k.1)
      | in_default w ↦ not_behind _ w.in_default.not-Behind k.0
    ]) some

pub returns : goal.returns
returns c = λ e ended t s h some. c.loop-way.invariant ended t s h (subst (SomeOf (λ w. IsBehind w × IsTaken t.J s w)) (sym (take_all c.loop-way.way-index c.args.ways.now c.loop-way-test.false)) some)

use Rattle.std.proofs.Common.{sym, subst, take_all}
use Rattle.std.specs.List.{AllByRecursion as Each}
use Rattle.std.proofs.lemmas.List.Elements.{same_from_all_zip}
use Rattle.cs_question.specs.Spread.{HoldsPlace, HoldsPlaces, IsTaken}
use Rattle.cs_question.proofs.Loops.{each_then}
use Rattle.cs_question.proofs.Taken.{each_cloned, held_copy}
use Rattle.cs_question.proofs.places.places_after.Goals as goal

pub loop-way-init : goal.loop-way-init
loop-way-init c = λ J n s h taken. each_cloned _ (HoldsPlace J n s) (λ p q e. held_copy J n s p q e.0 e.1.0 e.1.1.0 (same_from_all_zip _ p.asked.items q.asked.items e.1.1.1.0 (λ x y k. k))) c.args.places.now c.in_ok-all.all.items c.in_ok-all.ensures.ok h

pub loop-way-preserved : goal.loop-way-preserved
loop-way-preserved c = λ J n s h taken.
    each_then (IsTaken J s) c.args.chosen.now c.loop-way.way-index _ c.loop-way-test.true (HoldsPlaces J n s _)
    (λ before this. c.in_ok-take.ensures J n s (c.loop-way.invariant J n s h before) this) taken

pub returns : goal.returns
returns c = λ J n s h taken. c.loop-way.invariant J n s h (subst (Each (IsTaken J s)) (sym (take_all c.loop-way.way-index c.args.chosen.now c.loop-way-test.false)) taken)

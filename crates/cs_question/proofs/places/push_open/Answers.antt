use Rattle.std.proofs.Common.{◌≡◌, true, true≢false, inl, [], ◌∷◌, sym, ◌∙◌, subst, take_all}
use Rattle.std.specs.List.{AllByRecursion as Each}
use Rattle.std.proofs.lemmas.List.Elements.{same_from_all_zip}
use Rattle.cs_document.proofs.Each.{each_append}
use Rattle.cs_question.specs.Spread.{SomeOf, IsBehind, IsTaken, HoldsState}
use Rattle.cs_question.proofs.Some.{some_front, some_back}
use Rattle.cs_question.proofs.Loops.{some_or}
use Rattle.cs_question.proofs.places.push_open.Goals as goal
use Rattle.cs_question.proofs.places.push_open.Goals.{in-Behind, in_default}
use Rattle.cs_question.proofs.places.push_open.Goals.{then-not-matches+in_ok-is_shut+then-not-branch+in_ok-next+in_ok-push+in_ok-push-2, else-not-matches, else-not-matches-via-then-not-matches+in_ok-is_shut+else-not-branch, else-not-matches-via-else-not-matches}

pub loop-way-preserved : goal.loop-way-preserved
loop-way-preserved c = λ ended t s.
    let P = HoldsState t.J s in
    let old = c.loop-way.invariant ended t s in
    elim c.if-not-matches.branch [
      | then-not-matches+in_ok-is_shut+then-not-branch+in_ok-next+in_ok-push+in_ok-push-2 w ↦ (
        λ h. subst (λ v. SomeOf P v.items) (sym w.states-is) (subst (SomeOf P) (sym w.in_ok-push-2.ensures.items) (some_front P c.loop-way.states.items _ (old.0 h))),
        λ places h some. subst (λ v. SomeOf P v.items) (sym w.states-is)
            (some_or (λ w. (IsBehind w → ⊥) × IsTaken t.J s w) c.args.ways.now c.loop-way.way-index _ c.loop-way-test.true (SomeOf P _)
            (λ k. subst (SomeOf P) (sym w.in_ok-push-2.ensures.items) (some_front P c.loop-way.states.items _ (old.1 places h k)))
            (λ k. subst (SomeOf P) (sym w.in_ok-push-2.ensures.items) (some_back P c.loop-way.states.items _ (inl (subst (Each (IsTaken t.J s)) (sym w.in_ok-push.ensures.items) (each_append (IsTaken t.J s) w.in_ok-next.next.chosen.items (_ ∷ []) (subst (Each (IsTaken t.J s)) (sym (same_from_all_zip _ c.args.state.now.chosen.items w.in_ok-next.next.chosen.items w.in_ok-next.ensures.cases.0.0 (λ x y e. e))) h) (k.1, tt)))))) some),
      )
      | else-not-matches w ↦ (
        λ h. subst (λ v. SomeOf P v.items) (sym w.states-is) (old.0 h),
        λ places h some. subst (λ v. SomeOf P v.items) (sym w.states-is)
            (some_or (λ w. (IsBehind w → ⊥) × IsTaken t.J s w) c.args.ways.now c.loop-way.way-index _ c.loop-way-test.true (SomeOf P c.loop-way.states.items)
            (λ k. old.1 places h k)
            (λ k. elim w.else-not-matches.branch [
              | else-not-matches-via-then-not-matches+in_ok-is_shut+else-not-branch w' ↦ absurd (w'.in_ok-is_shut.ensures w'.if-not-branch.false ended t s places k.1)
              | else-not-matches-via-else-not-matches w' ↦ elim c.match-matches.branch [
                | in-Behind v ↦ absurd (k.0 (subst IsBehind (sym v.in-Behind.is) tt))
                | in_default v ↦ absurd (true≢false (sym w'.if-not-matches.false ∙ v.matches-is))
              ]
            ]) some),
      )
    ]

pub returns : goal.returns
returns c = λ ended t s.
    let old = c.loop-way.invariant ended t s in (
      old.0,
      λ places h some. old.1 places h (subst (SomeOf (λ w. (IsBehind w → ⊥) × IsTaken t.J s w)) (sym (take_all c.loop-way.way-index c.args.ways.now c.loop-way-test.false)) some),
    )

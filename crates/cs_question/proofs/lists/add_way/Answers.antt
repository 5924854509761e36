use Rattle.std.proofs.Common.{◌≡◌, ◌<◌, ◌≤◌, false, [], ◌∷◌, Some, None, inl, sym, ap, ◌∙◌, subst, arith}
use Rattle.cs_question.specs.Asked.{meets}
use Rattle.cs_question.specs.Elements.{fits}
use Rattle.cs_question.specs.Nodes.{end_of}
use Rattle.cs_question.specs.Spread.{AreTaken, IsTaken, IsSuch, spread_list}
use Rattle.cs_question.proofs.Some.{some_front, some_back}
use Rattle.std.specs.Prelude.{slice_get}
use Rattle.cs_question.proofs.Listed.{some_dropped}
use Rattle.cs_question.proofs.Taken.{such_at, unmet}
use Rattle.cs_question.proofs.lists.add_way.Goals as goal
use Rattle.cs_question.proofs.lists.add_way.Goals.{in-Closed, in-Each, then-place-count, else-place-count}

pub returns-clause-kept : goal.returns-clause-kept
returns-clause-kept c = λ J s h. subst (AreTaken J s) (sym c.in_ok-push.ensures.items) (some_front (IsTaken J s) c.args.ways.now.items _ h)

pub returns-clause-all : goal.returns-clause-all
returns-clause-all c = λ J ys i y l at got f.
    let s = spread_list c.args.count ys in
    let more = c.match-element.more in
    let such : IsSuch J more y = elim c.match-element.branch [
      | in-Closed w ↦ subst (λ o. IsSuch J o y) (sym w.more-is) tt
      | in-Each w ↦ subst (λ o. IsSuch J o y) (sym (w.more-is ∙ ap Some w.part_of.ensures)) (unmet J c.args.literal w.in-Each.rule y c.requires (subst (λ e. fits (λ z p. J c.args.literal.side p z) (end_of e) y ≡ false) w.in-Each.is f))
    ] in
    let taken : IsTaken J s c.if-place-count.way' = elim c.if-place-count.branch [
      | then-place-count w ↦
          let here : c.args.place < c.args.count = let k = w.if-place-count.true in omega (arith, k) in
          subst (IsTaken J s) (sym w.way'-is) (such_at J ys c.args.count c.args.place y more here (subst (λ j. slice_get ys j ≡ Some y) (at here) got) such)
      | else-place-count w ↦
          let past : c.args.count ≤ i = let k = w.if-place-count.false in omega (arith, k, l) in
          subst (IsTaken J s) (sym w.way'-is) (some_dropped (IsSuch J more) ys c.args.count i y past got such)
    ] in
    subst (AreTaken J s) (sym c.in_ok-push.ensures.items) (some_back (IsTaken J s) c.args.ways.now.items _ (inl taken))

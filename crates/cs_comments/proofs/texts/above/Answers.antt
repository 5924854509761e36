use Rattle.std.proofs.Common.{◌≡◌, [], ◌++◌, reverse, take, ap, sym, ◌∙◌}
use Rattle.cs_comments.specs.Comments.{above}
use Rattle.cs_comments.specs.Views.{texts_of}
use Rattle.cs_comments.proofs.Runs.{map-reverse, ended, stopped}
use Rattle.cs_comments.proofs.texts.above.Goals as goal
use Rattle.cs_comments.proofs.texts.above.Goals.{else-loop-place-test, then-loop-place-test+in-Behind}

pub returns : goal.returns
returns c =
    let ls = c.args.lines.now in
    let nearest = c.loop-place.comments.items in
    let none : above (reverse (take c.loop-place.place ls)) ≡ [] = elim c.loop-place-test.branch [
      | else-loop-place-test w ↦ ended ls c.loop-place.place w.loop-place-test.false
      | then-loop-place-test+in-Behind w ↦ stopped ls c.loop-place.place _ w.loop-place-test.true c.loop-place.auto.place w.in-Behind.is
    ] in
    ap texts_of c.reverse.ensures.items ∙ map-reverse (λ t. t.now) nearest ∙ sym (c.loop-place.invariant ∙ ap (λ l. l ++ reverse (texts_of nearest)) none)

use Rattle.std.proofs.Common.{[], ◌∷◌, ◌<◌, length, refl, sym, ◌∙◌, subst, arith}
use Rattle.cs_document.specs.Document.{elements}
use Rattle.cs_document.proofs.Each.{each_append}
use Rattle.cs_question.specs.Spread.{HoldsPlace, HoldsPlaces, spread_list}
use Rattle.cs_question.specs.Truth.{IsInner}
use Rattle.cs_question.proofs.Listed.{there, got_taken, each_got}
use Rattle.cs_question.proofs.Taken.{held_here}
use Rattle.cs_question.proofs.lists.places_of.Goals as goal

pub loop-place-preserved : goal.loop-place-preserved
loop-place-preserved c = λ J n ds m h inner l.
    let s = spread_list c.args.count (elements ds) in
    let place = c.loop-place.place in
    let below : place < c.args.count = c.loop-place-test.true in
    let t = there (elements ds) place (omega (arith, below, l)) in
    let f = c.in_ok-is_barred.ensures J n place ds t.0 m h refl t.1 (each_got (IsInner n) (elements ds) place t.0 inner t.1) in
    subst (HoldsPlaces J n s) (sym c.in_ok-push.ensures.items) (each_append (HoldsPlace J n s) c.loop-place.places.items _ (c.loop-place.invariant J n ds m h inner l) (held_here J n _ _ t.0 (got_taken (elements ds) c.args.count place below ∙ t.1) f.0 f.1 f.2, tt))

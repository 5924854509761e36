use Rattle.std.proofs.lemmas.List.Elements.{same_from_all_zip}
use Rattle.std.proofs.lemmas.Result.{IfOk-weaker}
use Rattle.cs_question.specs.Spread.{HoldsPlace}
use Rattle.cs_question.proofs.Listed.{each_got}
use Rattle.cs_question.proofs.Loops.{item_some}
use Rattle.cs_question.proofs.Taken.{held_copy}
use Rattle.cs_question.proofs.places.is_shut.Goals as goal

pub returns : goal.returns
returns c =
    IfOk-weaker c.is_dead.result _ _ (λ b f dead ended t s held taken.
    let place = c.in-Some-get.place in
    let e = c.in_ok-changed.ensures.cases in
    f dead ended t s (c.in_ok-change.ensures t.J t.n s
    (held_copy t.J t.n s place.now c.in_ok-changed.changed e.0 e.1.0 e.1.1.0 (same_from_all_zip _ _ _ e.1.1.1.0 (λ x y k. k))
    (each_got (HoldsPlace t.J t.n s) c.args.places.now c.in-Some.number place.now held (item_some c.args.places.now c.in-Some.number place c.in-Some-get.ensures.lookup))) taken)) c.is_dead.ensures

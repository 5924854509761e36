use Rattle.std.proofs.Common.{[], ◌∷◌, refl, sym, subst}
use Rattle.cs_document.specs.Document.{entries, under}
use Rattle.cs_document.proofs.Each.{each_append}
use Rattle.cs_question.specs.Spread.{HoldsPlace, HoldsPlaces, spread_map}
use Rattle.cs_question.proofs.Mapped.{if_under}
use Rattle.cs_question.proofs.Taken.{held_first}
use Rattle.cs_question.proofs.maps.empty_places.Goals as goal

pub loop-label-preserved : goal.loop-label-preserved
loop-label-preserved c = λ J n ms are l.
    let s = spread_map [] (entries ms) in
    subst (HoldsPlaces J n s) (sym c.in_ok-push.ensures.items)
    (each_append (HoldsPlace J n s) c.loop-label.places.items _ (c.loop-label.invariant J n ms are l) (held_first J n (under _ (entries ms)) _ refl refl c.new.ensures.items (if_under n _ ms are l), tt))

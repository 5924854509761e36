use Rattle.std.proofs.Common.{◌≡◌, true, is_some, sym, ap, ◌∙◌, subst}
use Rattle.std.specs.List.{AllByRecursion as Each}
use Rattle.cs_document.specs.Document.{object, entries}
use Rattle.cs_question.specs.Spread.{HoldsPlaces, HoldsFurther, AreTaken, spread_map}
use Rattle.cs_question.proofs.Seen.{not_met}
use Rattle.cs_question.proofs.maps.map_of.Goals as goal

pub returns-then-not-may_meet_all : goal.returns-then-not-may_meet_all
returns-then-not-may_meet_all c = λ e ended t m ms are l h. not_met c.args.nodes.now t.J m (object ms) c.args.asked.now (sym c.may_meet_all.ensures ∙ c.if-not-may_meet_all.true) h

pub returns : goal.returns
returns c = λ e ended t m ms are l h.
    let d = c.in_ok-demands.demands in
    let is = c.deref.ensures.value in
    c.in_ok-chosen.ensures (sym c.map.ensures.variant ∙ e) ended t (spread_map c.in_ok-labels.labels.items (entries ms))
    (subst (λ xs. HoldsPlaces t.J t.n (spread_map xs (entries ms)) d.places.items) is (c.in_ok-demands.ensures.places t.J t.n ms m are l h))
    (subst (λ xs. HoldsFurther t.J t.n (spread_map xs (entries ms)) d.further) is (c.in_ok-demands.ensures.further t.J t.n ms m are l h))
    (subst (λ xs. Each (λ w. AreTaken t.J (spread_map xs (entries ms)) w.items) d.rules.items) is (c.in_ok-demands.ensures.rules t.J ms m are h))

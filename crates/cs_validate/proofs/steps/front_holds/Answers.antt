use Rattle.std.proofs.Common.{◌&&◌, ◌<◌, refl, suc, ℕ, List, true, drop, sym, ap, ◌∙◌, add-one, subst}
use Rattle.std.specs.List.{AllByRecursion as Each}
use Rattle.cs_rules.specs.Knowns.{verdict_inside, value_count, place_count}
use Rattle.cs_profile.specs.Validity as validity
use Rattle.cs_validate.specs.Steps.{places_from}
use Rattle.cs_validate.proofs.Asked.{front_next, places_next}
use Rattle.cs_validate.proofs.steps.front_holds.Goals as goal

pub loop-schema-preserved : goal.loop-schema-preserved
loop-schema-preserved c =
    let l = c.loop-schema in
    let split = c.in-Some.ensures.cases.0 in
    let xs = c.args.prefix.now in
    let inside = λ (y p : ℕ). verdict_inside c.args.known.now y p in
    let front = λ (ps ys : List ℕ). validity.front_holds (λ (h : ℕ). true) inside ps ys in
    let children = subst (λ ys. Each (λ y. y < value_count c.args.known.now) ys) split l.invariant.children in record {
      same = l.invariant.same ∙ ap (front (places_from l.place (drop l._schema-index xs))) split
          ∙ front_next inside xs l._schema-index l.place c.in-Some.child.now c.in-Some.others.now c.loop-schema-test.true
          ∙ ap (λ b. b && front (places_from (suc l.place) (drop (suc l._schema-index) xs)) c.in-Some.others.now) (sym c.inside.ensures ∙ c.if-not-inside.false)
          ∙ rw (add-one, add-one) refl;
      children = children.1;
      below = rw (add-one, add-one) (places_next (place_count c.args.known.now) xs l._schema-index l.place c.loop-schema-test.true l.invariant.below);
    }

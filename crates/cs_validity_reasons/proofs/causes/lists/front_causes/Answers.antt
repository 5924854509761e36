use Rattle.std.proofs.Common.{◌≡◌, ◌<◌, suc, ◌∷◌, ◌++◌, map, zip, drop, slice_index, ap, ◌∙◌, subst, add-one}
use Rattle.std.specs.List.{AllByRecursion as Each}
use Rattle.cs_rules.specs.Knowns.{value_count, place_count}
use Rattle.cs_table.specs.Judged.{verdicts}
use Rattle.cs_validity_reasons.specs.CauseLists.{each_from, unless, front_told}
use Rattle.cs_validate.specs.Steps.{places_from}
use Rattle.cs_validity_reasons.specs.declared.cause.KeyedCause.TheVariants.{Prefix}
use Rattle.cs_validate.proofs.Asked.{places_next}
use Rattle.cs_validity_reasons.proofs.CauseLists.{regrouped, places_split}
use Rattle.cs_validity_reasons.proofs.causes.lists.front_causes.Goals as goal

pub loop-place-preserved : goal.loop-place-preserved
loop-place-preserved c =
    let l = c.loop-place in
    let split = c.in-Some.ensures.cases.0 in
    let xs = c.args.prefix.now in
    let k = c.args.known.now in
    let told = front_told (verdicts k.done.now) in
    let rules = slice_index k.children.now in
    let all = c.args.found.now.items ++ each_from told 0 (zip (map rules (places_from c.args.first xs)) c.args.children.now) in
    let children = subst (λ ys. Each (λ y. y < value_count k) ys) split l.invariant.children in
    let parts = subst (λ ps. all ≡ l.found.items ++ each_from told l.place (zip (map rules ps) l.rest.now)) (places_split xs l.place l.part c.loop-place-test.true) l.invariant.told in
    let left = subst (λ ys. all ≡ l.found.items ++ each_from told l.place (zip (map rules (l.part ∷ places_from (suc l.part) (drop (suc l.place) xs))) ys)) split parts in record {
      children = children.1;
      below = rw (add-one, add-one) (places_next (place_count k) xs l.place l.part c.loop-place-test.true l.invariant.below);
      told = rw (add-one, add-one) (regrouped all l.found.items c.tell_unless.new.found.items (told l.place (rules l.part, c.in-Some.child.now)) _ left
          (c.in_ok-tell_unless.ensures ∙ ap (λ b. l.found.items ++ unless b (Prefix l.place c.in-Some.child.now (rules l.part))) c.inside.ensures));
    }

use Rattle.std.proofs.Common.{◌≡◌, ◌<◌, ◌≤◌, Some, None, length, sym, ap, ◌∙◌, subst, arith}
use Rattle.std.proofs.lemmas.List.{take_all}
use Rattle.std.specs.Map.{lookup}
use Rattle.std.specs.Str.{bytes_eq}
use Rattle.cs_grammar.specs.View.{expr_view}
use Rattle.cs_resolve.specs.Narrowed.{IsClassified, sole_entry}
use Rattle.cs_resolve.proofs.Searches.{body_of}
use Rattle.cs_resolve.proofs.ClassifiedBodies.{same_entry, classified_more, classified_kept}
use Rattle.cs_resolve.proofs.refinement.classify_bodies.Goals as goal
use Rattle.cs_resolve.proofs.refinement.classify_bodies.Goals.{in-Some+in_ok-classify_body, in_default}

pub loop-place-preserved : goal.loop-place-preserved
loop-place-preserved c ds held sound =
    let es = c.args.bodies.now.entries in
    let i = c.loop-place.place in
    let before = c.loop-place.invariant ds held sound in
    let inside : i < length es = omega (arith, c.loop-place-test.true, c.len-place-end.ensures.len) in
    elim c.match-sole_body_at.branch [
      | in-Some+in_ok-classify_body w ↦
          let new = w.in_ok-classify_body.ensures in
          rw (w.bases-is, w.refiners-is) (
            new.sound ds (w.in-Some.ensures.sole ds held) before.0,
            λ n e h. classified_more (λ n e. IsClassified w.classify_body.new.bases w.classify_body.new.refiners n (expr_view e.now)) es i
                (λ n e h. classified_kept c.loop-place.bases w.classify_body.new.bases c.loop-place.refiners w.classify_body.new.refiners n (expr_view e.now) new.kept new.listed (before.1 n e h))
                (λ k e at. let same = same_entry w.in-Some.definition (k, e) (sym w.in-Some.is ∙ c.sole_body_at.ensures.found ∙ ap sole_entry at) in subst (λ u. IsClassified w.classify_body.new.bases w.classify_body.new.refiners u.now (expr_view e.now)) same.0 (subst (λ x. IsClassified w.classify_body.new.bases w.classify_body.new.refiners w.in-Some.definition.0.now (expr_view x.now)) same.1 new.classified))
                n e h inside,
          )
      | in_default w ↦ rw (w.bases-is, w.refiners-is) (
        before.0,
        λ n e h. classified_more (λ n e. IsClassified c.loop-place.bases c.loop-place.refiners n (expr_view e.now)) es i before.1
            (λ k e at. let never : None ≡ Some (k, e) = sym w.in_default.is ∙ c.sole_body_at.ensures.found ∙ ap sole_entry at in cc)
            n e h inside,
      )
    ]

pub returns : goal.returns
returns c ds held sound =
    let es = c.args.bodies.now.entries in
    let i = c.loop-place.place in
    let end : length es ≤ i = omega (arith, c.loop-place-test.false, c.len-place-end.ensures.len) in
    let before = c.loop-place.invariant ds held sound in (
      before.0,
      λ n e is.
          let x = body_of c.args.bodies.now ds n e held is in
          subst (IsClassified c.loop-place.bases c.loop-place.refiners n) x.2 (before.1 n x.0 (ap (λ ys. lookup (λ k. bytes_eq n k.now) ys) (take_all i es end) ∙ x.1)),
    )

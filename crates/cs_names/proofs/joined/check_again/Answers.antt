use Rattle.std.proofs.Common.{◌≡◌, [], ◌+◌, map, take, drop, refl, sym, ap, ◌∙◌, subst}
use Rattle.cs_plain.specs.References.{TellsTexts}
use Rattle.cs_names.specs.Checks.{lifted_view}
use Rattle.cs_names.specs.Joined.{again, inner_text}
use Rattle.cs_plain.proofs.Folds.{gathered_more}
use Rattle.cs_names.proofs.Found.{inner_texts, again_more}
use Rattle.cs_plain.proofs.Walks.{at_place}
use Rattle.cs_names.proofs.joined.check_again.Goals as goal

pub loop-lifted-preserved : goal.loop-lifted-preserved
loop-lifted-preserved c =
    let xs = c.deref-lifted-items.result.now in
    let i = c.loop-lifted.lifted-index in
    let x = c.lifted-item.result in
    let before = inner_texts (map lifted_view (take i xs)) in
    let rest = map lifted_view (drop (i + 1) xs) in
    let start = again [] (map lifted_view xs) in
    let more = gathered_more (λ ys. inner_texts (map lifted_view ys)) (λ y. inner_text (lifted_view y)) refl (λ y ys. refl) xs i x c.loop-lifted-test.true c.lifted-item.is in
    let told = c.loop-lifted.invariant.0 in
    let cut = c.loop-lifted.invariant.1 ∙ ap (λ ys. again before (map lifted_view ys)) (at_place xs i x c.loop-lifted-test.true c.lifted-item.is) in
    let new = sym (c.in_ok-is_seen.ensures.found before told) ∙ c.if-is_seen.false in (
      subst (TellsTexts c.is_declared_again.new.seen) (sym more) (c.in_ok-is_seen.ensures.seen before told c.if-is_seen.false),
      subst (λ ls. start ≡ again ls rest) (sym more) (again_more before (lifted_view x) rest start cut new),
    )

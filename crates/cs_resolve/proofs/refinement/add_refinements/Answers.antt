use Rattle.std.proofs.Common.{◌≤◌, [], inl, inr, length, sym, ap, ◌∙◌, subst, arith}
use Rattle.std.proofs.lemmas.List.{take_all}
use Rattle.std.specs.List.{list_any}
use Rattle.std.specs.Str.{bytes_eq}
use Rattle.cs_resolve.specs.Narrowed.{Has, Refines}
use Rattle.cs_resolve.proofs.Searches.{grown_more, names_more}
use Rattle.cs_resolve.proofs.refinement.add_refinements.Goals as goal

pub loop-name-preserved : goal.loop-name-preserved
loop-name-preserved c =
    let invariant = c.loop-name.invariant in
    let grown = c.in_ok-add_refinement.ensures.grown in (
      grown_more c.args.bases.now c.loop-name.bases c.add_refinement.new.bases invariant.0 grown,
      λ ds held sound.
          let before = invariant.1 ds held sound in
          let next = c.in_ok-add_refinement.ensures.sound ds held before.0 in (
            next.0,
            λ m n listed has r. elim (names_more c.deref-name-items.result.now c.loop-name.name-index (record { ref_ptr = (0, 0); now = [] }) n c.loop-name-test.true listed) [
              | inl old ↦ grown.kept n (before.1 m n old has r)
              | inr same ↦ subst (Has c.add_refinement.new.bases) (sym same) (next.1 m (invariant.0.kept m has) (subst (λ u. Refines ds u m) same r))
            ],
          ),
    )

pub returns-clause-sound : goal.returns-clause-sound
returns-clause-sound c ds held sound =
    let xs = c.deref-name-items.result.now in
    let i = c.loop-name.name-index in
    let end : length xs ≤ i = omega (arith, c.loop-name-test.false) in
    let before = c.loop-name.invariant.1 ds held sound in
    (before.0, λ m n listed has r. before.1 m n (ap (list_any (λ k. bytes_eq n k.now)) (take_all i xs end ∙ c.deref-name-items.ensures.value) ∙ listed) has r)

use Rattle.std.proofs.Common.{rules, ◌≡◌, ℕ, ◌≤◌, Some, None, List, length, slice_get, is_some, refl, sym, ap, ◌∙◌, subst, arith}
use Rattle.std.proofs.lemmas.Option.{slice_get_within}
use Rattle.std.specs.Borrow.{Bor}
use Rattle.std.specs.HashMap.{keys}
use Rattle.std.specs.Option.{option_map, option_copied}
use Rattle.cs_resolve.specs.Narrowed.{Has, Refines}
use Rattle.cs_resolve.proofs.Searches.{grown_more, grown_none}
use Rattle.cs_resolve.proofs.FoundBases.{key_at, same_key, closed_more, front_kept, listed_names}
use Rattle.cs_resolve.proofs.refinement.find_refinements.Goals as goal
use Rattle.cs_resolve.proofs.refinement.find_refinements.Goals.{in-Some+in-Some-get+in_ok-add_refinements, in_default, in_default-via-in-None-1, in_default-via-in-Some+in-None-1}

pub loop-place-preserved : goal.loop-place-preserved
loop-place-preserved c =
    let a = c.args.bases.now in
    let old = c.loop-place.bases in
    let p = c.loop-place.place in
    let invariant = c.loop-place.invariant in
    let es = old.numbers.entries in
    elim c.match-get_index.branch [
      | in-Some+in-Some-get+in_ok-add_refinements w ↦
          let new = w.add_refinements.new.bases in
          let grown = w.in_ok-add_refinements.ensures.grown in
          let name = w.in-Some.name.now in
          let at : slice_get (keys old.numbers) p ≡ Some name = key_at es p ∙ ap (option_map (λ e. e.0)) (sym c.get_index.ensures.entry ∙ ap (option_map _) w.in-Some.is) in
          rw w.bases-is (
            grown_more a old new invariant.0 grown,
            λ ds held classified sound.
                let before = invariant.1 ds held classified sound in
                let next = w.in_ok-add_refinements.ensures.sound ds held before.0 in
                let has : Has old name.now = ap is_some w.in-Some.ensures.value in (
                  next.0,
                  closed_more ds old new grown p before.1
                      (λ k there n r. let same = same_key name k (sym at ∙ there) in
                      let g = subst (λ (u : Bor (List ℕ)). Refines ds n u.now) (sym same) r in
                      next.1 name.now n (listed_names c.args.refiners.now ds a name.now n classified g (Some w.in-Some-get.names.now) (sym (w.in-Some-get.ensures.value))) has g)
                      (front_kept ds old new grown p before.1 (slice_get_within (keys old.numbers) p name at)),
                ),
          )
      | in_default w ↦ rw w.bases-is (
        invariant.0,
        λ ds held classified sound.
            let before = invariant.1 ds held classified sound in (
              before.0,
              closed_more ds old old (grown_none old) p before.1
                  (λ k there n r. elim w.in_default.branch [
                    | in_default-via-in-None-1 v ↦ (let none : c.get_index.result ≡ None = search (rules, v) in let e : None ≡ Some k = sym (key_at es p ∙ ap (option_map (λ e. e.0)) (sym c.get_index.ensures.entry ∙ ap (option_map _) none)) ∙ there in cc)
                    | in_default-via-in-Some+in-None-1 v ↦
                        let name = v.in-Some.name.now in
                        let at : slice_get (keys old.numbers) p ≡ Some name = key_at es p ∙ ap (option_map (λ e. e.0)) (sym c.get_index.ensures.entry ∙ ap (option_map _) v.in-Some.is) in
                        let g = subst (λ (u : Bor (List ℕ)). Refines ds n u.now) (sym (same_key name k (sym at ∙ there))) r in
                        let none : v.get.result ≡ None = search (rules, v) in
                        absurd (listed_names c.args.refiners.now ds a name.now n classified g None (sym v.get.ensures.value ∙ ap option_copied none))
                  ])
                  (λ i l. refl),
            ),
      )
    ]

pub returns-clause-sound : goal.returns-clause-sound
returns-clause-sound c ds held classified sound =
    let before = c.loop-place.invariant.1 ds held classified sound in
    let end : length c.args.bodies.now.entries ≤ c.loop-place.place = omega (arith, c.loop-place-test.false, c.len-place-end.ensures.len) in
    (before.0, λ i k l at n r. before.1 i k (omega (arith, l, end)) at n r)

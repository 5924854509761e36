use Rattle.std.proofs.Common.{◌≡◌, None, [], ◌++◌, map, take, drop, ◌+◌, sym, ap, ◌∙◌, subst}
use Rattle.std.proofs.lemmas.List.{append-nil, take_all}
use Rattle.cs_embeddings.specs.Bodies.{as_declared, bodies_behind}
use Rattle.cs_embeddings.specs.Gathered.{is_gathered, gathered_at}
use Rattle.cs_embeddings.specs.GatheredTable.{declared_view, gathered_view, body_view, TellsLabels, standing_view, StandsFor}
use Rattle.cs_embeddings.proofs.Keeping.{KeepsSoFar, sound_of, gathered_label, none_kept, one_behind, one_kept, nothing_kept, all_kept}
use Rattle.cs_embeddings.proofs.kept.kept_bodies.Goals as goal
use Rattle.cs_embeddings.proofs.kept.kept_bodies.Goals.{in-Some+in_ok-push, in_default}

pub loop-body-init : goal.loop-body-init
loop-body-init c ds before tables told =
    let xs = c.deref-body-items.result.now in (
      subst (λ bs. TellsLabels c.args.labels.now ds (map as_declared ds) bs) (sym (append-nil before)) told,
      subst (λ ks. KeepsSoFar ks ds (map declared_view xs) before (before ++ []) (map declared_view xs)) (sym c.in_ok-kept.ensures.items) (none_kept ds before xs),
    )

pub loop-body-preserved : goal.loop-body-preserved
loop-body-preserved c ds before tables told =
    let xs = c.deref-body-items.result.now in let i = c.loop-body.body-index in let x = c.body-item.result in
    let d = declared_view x in let all = map as_declared ds in let here = map declared_view xs in let behind = before ++ map declared_view (take i xs) in
    let l = c.loop-body-test.true in let is = c.body-item.is in let found = c.loop-body.kept.items in
    let inv = c.loop-body.invariant ds before tables told in
    let met = c.in_ok-standing.ensures ds all behind tables inv.0 in
    let labels = subst (λ bs. TellsLabels c.meet.new.self ds all bs) (sym (one_behind ds before xs i x l is found)) met.2 in
    elim c.match-branch-5.branch [
      | in-Some+in_ok-push w ↦
          let g = w.in-Some.standing in
          let stands = subst (λ o. standing_view o ≡ gathered_at ds all behind d) w.in-Some.is met.0 in
          let for = subst (λ o. StandsFor o (is_gathered ds all d) ds all d) w.in-Some.is met.1 in
          let seen = ap (map declared_view) (c.deref.ensures.value ∙ sym c.deref-body-items.ensures.value) in
          let tells = subst (λ h. TellsLabels c.in_ok-here.here ds h []) seen (c.in_ok-here.ensures ds) in
          let place = w.part_place-place.ensures ds here d tells for (gathered_label ds all behind d (gathered_view g) stands) in (
            labels,
            one_kept ds before xs i x l is found _ c.match-branch-5.kept.items (ap (λ v. v.items) w.kept-is ∙ w.in_ok-push.ensures.items) stands place
                (sound_of ds (is_gathered ds all d) all d g for) inv.1,
          )
      | in_default w ↦
          let none : c.in_ok-standing.field-0 ≡ None = w.in_default.is in
          let stands = subst (λ o. standing_view o ≡ gathered_at ds all behind d) none met.0 in
          let rest = nothing_kept ds before xs i x l is found stands inv.1 in
          (labels, subst (λ v. KeepsSoFar v.items ds here before (before ++ map declared_view (take (i + 1) xs)) (map declared_view (drop (i + 1) xs))) (sym w.kept-is) rest)
    ]

pub returns : goal.returns
returns c ds before tables told =
    let xs = c.deref-body-items.result.now in let i = c.loop-body.body-index in let kept = c.loop-body.kept.items in let l = c.loop-body-test.false in
    let is = ap (map declared_view) c.deref-body-items.ensures.value ∙ c.in_ok-declared.ensures in
    let inv = c.loop-body.invariant ds before tables told in (
      subst (λ h. map body_view kept ≡ bodies_behind ds h before h) is (all_kept ds before xs i kept l inv.1),
      inv.1.sound,
      subst (λ h. TellsLabels c.loop-body.labels ds (map as_declared ds) (before ++ h)) (ap (map declared_view) (take_all i xs l) ∙ is) inv.0,
    )

use Rattle.std.proofs.Common.{◌≡◌, None, ◌+◌, map, take, drop, sym, ap, ◌∙◌, subst}
use Rattle.cs_embeddings.specs.Gathered.{is_gathered, gathered_at}
use Rattle.cs_embeddings.specs.GatheredTable.{declared_view, TellsLabels, standing_view, StandsFor}
use Rattle.cs_embeddings.proofs.Gathering.{GathersSoFar, declared_more, one_stands, nothing_stands, all_gathered}
use Rattle.cs_embeddings.proofs.Keeping.{sound_of}
use Rattle.cs_embeddings.proofs.gathered.gather.Goals as goal
use Rattle.cs_embeddings.proofs.gathered.gather.Goals.{in-Some+in_ok-push, in_default}

pub loop-declared-preserved : goal.loop-declared-preserved
loop-declared-preserved c ds tables =
    let xs = c.args.declarations.now in
    let i = c.loop-declared.declared-index in
    let x = c.declared-item.result in
    let all = map declared_view xs in
    let before = map declared_view (take i xs) in
    let told = c.loop-declared.invariant ds tables in
    let met = c.in_ok-standing.ensures ds all before tables told.0 in
    let labels = subst (λ bs. TellsLabels c.meet.new.self ds all bs) (sym (declared_more xs i x c.loop-declared-test.true c.declared-item.is)) met.2 in
    elim c.match-branch-4.branch [
      | in-Some+in_ok-push w ↦
          let stands = subst (λ o. standing_view o ≡ gathered_at ds all before (declared_view x)) w.in-Some.is met.0 in
          let sound = sound_of ds (is_gathered ds all (declared_view x)) all (declared_view x) w.in-Some.standing (subst (λ o. StandsFor o (is_gathered ds all (declared_view x)) ds all (declared_view x)) w.in-Some.is met.1) in (
            labels,
            one_stands ds xs i x c.loop-declared-test.true c.declared-item.is c.loop-declared.gathered.items w.in-Some.standing c.match-branch-4.gathered.items
                (ap (λ v. v.items) w.gathered-is ∙ w.in_ok-push.ensures.items) stands sound told.1,
          )
      | in_default w ↦
          let none : c.in_ok-standing.field-0 ≡ None = w.in_default.is in
          let stands = subst (λ o. standing_view o ≡ gathered_at ds all before (declared_view x)) none met.0 in
          let rest = nothing_stands ds xs i x c.loop-declared-test.true c.declared-item.is c.loop-declared.gathered.items stands told.1 in
          (labels, subst (λ v. GathersSoFar v.items ds all (map declared_view (take (i + 1) xs)) (map declared_view (drop (i + 1) xs))) (sym w.gathered-is) rest)
    ]

pub returns-clause-found : goal.returns-clause-found
returns-clause-found c ds tables =
    all_gathered ds c.args.declarations.now c.loop-declared.declared-index c.loop-declared.gathered.items c.loop-declared-test.false
    (c.loop-declared.invariant ds tables).1

pub returns-clause-sound : goal.returns-clause-sound
returns-clause-sound c ds tables = (c.loop-declared.invariant ds tables).1.sound

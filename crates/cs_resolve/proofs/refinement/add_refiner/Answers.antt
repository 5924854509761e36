use Rattle.std.proofs.Common.{◌≡◌, true, Some, sym, ap, ◌∙◌, subst}
use Rattle.std.specs.Option.{MatchOption}
use Rattle.std.proofs.lemmas.Map.Text.{hash_map_updates_str}
use Rattle.cs_resolve.proofs.RefinerLists.{among, lists_added, lists_kept}
use Rattle.cs_resolve.proofs.refinement.add_refiner.Goals as goal
use Rattle.cs_resolve.proofs.refinement.add_refiner.Goals.{in-Some, in-None}

pub returns-clause-kept : goal.returns-clause-kept
returns-clause-kept c =
    let base = c.args.base.now in
    let r = c.args.refiners.now in
    let mid = c.swap_remove.new.self in
    let taken = hash_map_updates_str base r mid _ c.swap_remove.ensures.updates in
    let put = hash_map_updates_str base mid c.insert.new.self _ c.in_ok-insert.ensures.updates in
    lists_kept r mid c.insert.new.self base c.push.new.self taken put c.match-swap_remove.names.items c.args.name c.in_ok-push.ensures.items (λ n h. elim c.match-swap_remove.branch [
      | in-Some w ↦ subst (λ o. MatchOption o ⊥ (λ xs. among n xs.items ≡ true)) (sym c.swap_remove.ensures.value ∙ w.in-Some.is ∙ ap Some (sym w.names-is)) h
      | in-None w ↦ absurd (subst (λ o. MatchOption o ⊥ (λ xs. among n xs.items ≡ true)) (sym c.swap_remove.ensures.value ∙ w.in-None.is) h)
    ])

pub returns-clause-added : goal.returns-clause-added
returns-clause-added c =
    let base = c.args.base.now in
    let r = c.args.refiners.now in
    let mid = c.swap_remove.new.self in
    let taken = hash_map_updates_str base r mid _ c.swap_remove.ensures.updates in
    let put = hash_map_updates_str base mid c.insert.new.self _ c.in_ok-insert.ensures.updates in
    lists_added r mid c.insert.new.self base c.push.new.self taken put c.match-swap_remove.names.items c.args.name c.in_ok-push.ensures.items

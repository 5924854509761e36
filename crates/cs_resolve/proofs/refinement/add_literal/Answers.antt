use Rattle.std.proofs.Common.{rules, [], ◌∷◌, ◌++◌, sym, subst, slice_get}
use Rattle.std.specs.Option.{MatchOption}
use Rattle.std.proofs.lemmas.Map.Text.{hash_map_updates_str}
use Rattle.cs_grammar.specs.View.{fields_view}
use Rattle.cs_resolve.specs.Narrowed.{HoldsBase}
use Rattle.cs_resolve.specs.Refinement.{texts}
use Rattle.cs_resolve.specs.declared.refinement.Bases.{Bases}
use Rattle.cs_resolve.proofs.BaseTables.{at_end, has_kept, sound_put}
use Rattle.cs_resolve.proofs.refinement.add_literal.Goals as goal

pub returns-clause-kept : goal.returns-clause-kept
returns-clause-kept c = has_kept c.args.bases.now (record { sets = c.push.new.self; numbers = c.insert.new.self }) c.args.name.now c.len-number.result (hash_map_updates_str c.args.name.now c.args.bases.now.numbers c.insert.new.self _ c.in_ok-insert.ensures.updates)

pub returns-clause-sound : goal.returns-clause-sound
returns-clause-sound c ds base sound =
    let name = c.args.name.now in
    let number = c.len-number.result in
    let old = c.args.bases.now in
    let labels = c.in_ok-labels.labels in
    let new : Bases = record { sets = c.push.new.self; numbers = c.insert.new.self } in
    let after = hash_map_updates_str name old.numbers c.insert.new.self _ c.in_ok-insert.ensures.updates in
    let holds : HoldsBase ds name labels = (texts (fields_view c.args.fields.now.items), base, c.in_ok-labels.ensures) in
    let pushed = c.in_ok-push.ensures.items in
    let there = subst (λ xs. MatchOption (slice_get xs number) ⊥ (HoldsBase ds name)) (sym pushed) (subst (λ i. MatchOption (slice_get (old.sets.items ++ labels ∷ []) i) ⊥ (HoldsBase ds name)) (sym (search (rules, c.len-number.ensures))) (at_end (HoldsBase ds name) old.sets.items labels holds)) in
    sound_put old new name number after ds (labels ∷ []) pushed c.in_ok-insert.ensures.unique there sound

use Rattle.std.proofs.Common.{rules, ℕ, List, [], sym, ap, ◌∙◌}
use Rattle.std.specs.Borrow.{Bor}
use Rattle.std.specs.Map.{keys_of}
use Rattle.std.specs.Str.{bytes_eq}
use Rattle.std.proofs.lemmas.List.{append-nil}
use Rattle.std.proofs.lemmas.Map.Text.{hash_map_updates_str}
use Rattle.cs_resolve.specs.declared.refinement.Bases.{Bases}
use Rattle.cs_resolve.proofs.BaseTables.{keys_grown, has_kept, has_added, sound_put}
use Rattle.cs_resolve.proofs.refinement.add_refinement.Goals as goal

pub returns-in_ok-insert-clause-grown : goal.returns-in_ok-insert-clause-grown
returns-in_ok-insert-clause-grown c =
    let old = c.args.bases.now in
    let new : Bases = record { sets = old.sets; numbers = c.insert.new.self } in
    let name = c.args.name.now in
    let after = hash_map_updates_str name old.numbers c.insert.new.self _ c.in_ok-insert.ensures.updates in
    let grown = keys_grown (λ (k l : Bor (List ℕ)). bytes_eq k.now l.now) old.numbers.entries c.args.name c.in-Some.number in
    record {
      kept = has_kept old new name c.in-Some.number after;
      more = grown.0;
      behind = ap (λ es. keys_of es) c.in_ok-insert.ensures.entries ∙ grown.1;
    }

pub returns-in_ok-insert-clause-sound : goal.returns-in_ok-insert-clause-sound
returns-in_ok-insert-clause-sound c ds held sound =
    let old = c.args.bases.now in
    let new : Bases = record { sets = old.sets; numbers = c.insert.new.self } in
    let name = c.args.name.now in
    let after = hash_map_updates_str name old.numbers c.insert.new.self _ c.in_ok-insert.ensures.updates in
    (sound_put old new name c.in-Some.number after ds [] (sym (append-nil old.sets.items)) c.in_ok-insert.ensures.unique (c.in-Some.ensures.sound ds held sound) sound, λ m has r. has_added old new name c.in-Some.number after)

pub returns-in_default-clause-sound : goal.returns-in_default-clause-sound
returns-in_default-clause-sound c ds held sound = (sound, λ m has r. absurd (search (rules, c.refined_number.ensures.found ds held sound m has r)))

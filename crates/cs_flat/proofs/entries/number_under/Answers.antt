use Rattle.std.proofs.Common.{rules}
use Rattle.std.proofs.lemmas.List.Sorted.{answers_always}
use Rattle.cs_flat.proofs.Lookups.{searchable, found, missed}
use Rattle.cs_flat.proofs.entries.number_under.Goals as goal

pub returns-in-Ok : goal.returns-in-Ok
returns-in-Ok c =
    let key = c.args.key.now in
    let at = c.in-Ok.ensures.position (λ e. e.0) (answers_always _ _ _ (λ f a r g called. search rules)) in
    found key c.args.entries.now c.in-Ok.place _ c.requires c.in-Ok.ensures.bound (at _)

pub returns-in-Err : goal.returns-in-Err
returns-in-Err c =
    let key = c.args.key.now in
    let parted = c.in-Err.ensures.position (λ e. e.0) (answers_always _ _ _ (λ f a r g called. search rules)) (searchable key c.args.entries.now c.requires) in
    missed key c.args.entries.now c.in-Err.field-0 parted.0 parted.1

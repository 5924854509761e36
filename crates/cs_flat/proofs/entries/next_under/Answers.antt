use Rattle.std.proofs.Common.{rules, sym, ◌∙◌}
use Rattle.std.proofs.lemmas.List.Sorted.{answers_always}
use Rattle.cs_flat.proofs.Lookups.{searchable, found, missed, hit}
use Rattle.cs_flat.proofs.entries.next_under.Goals as goal

pub returns-then-eq : goal.returns-then-eq
returns-then-eq c = hit c.args.key.now c.args.entries.now c.args.next.now _ c.requires c.if-next-entries.true (sym c.eq.ensures ∙ c.if-eq.true)

pub returns-in-Ok : goal.returns-in-Ok
returns-in-Ok c =
    let key = c.args.key.now in
    let at = c.in-Ok.ensures.position (λ e. e.0) (answers_always _ _ _ (λ f a r g called. search rules)) in
    found key c.args.entries.now c.in-Ok.place _ c.requires c.in-Ok.ensures.bound (at _)

pub returns-in-Err : goal.returns-in-Err
returns-in-Err c =
    let key = c.args.key.now in
    let parted = c.in-Err.ensures.position (λ e. e.0) (answers_always _ _ _ (λ f a r g called. search rules)) (searchable key c.args.entries.now c.requires) in
    missed key c.args.entries.now c.in-Err.place parted.0 parted.1

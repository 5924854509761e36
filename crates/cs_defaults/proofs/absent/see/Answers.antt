use Rattle.std.proofs.Common.{rules, ◌≡◌, true, false}
use Rattle.cs_defaults.proofs.TextSets.{has_text, seen_first, seen_again}
use Rattle.cs_defaults.proofs.absent.see.Goals as goal

pub returns-in_ok-insert-2 : goal.returns-in_ok-insert-2
returns-in_ok-insert-2 c ls told =
    let k = c.args.label in
    let there : has_text k.now c.args.seen.now ≡ true = search (rules, c.in_ok-insert.ensures.added, c.if-not-branch.true) in
    seen_again c.args.seen.now c.args.repeated.now c.insert.new.self ls k told c.in_ok-insert.ensures.updates there c.insert-then-not-branch.new.self c.in_ok-insert-2.ensures.updates

pub returns-else-not-branch : goal.returns-else-not-branch
returns-else-not-branch c ls told =
    let k = c.args.label in
    let new : has_text k.now c.args.seen.now ≡ false = search (rules, c.in_ok-insert.ensures.added, c.if-not-branch.false) in
    seen_first c.args.seen.now c.args.repeated.now c.insert.new.self ls k told c.in_ok-insert.ensures.updates new

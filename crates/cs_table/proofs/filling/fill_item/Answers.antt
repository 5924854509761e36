use Rattle.std.proofs.Common.{◌≡◌, ◌<◌, Some, sym, subst, lt_trans}
use Rattle.std.specs.Prelude.{IfSome}
use Rattle.cs_table.proofs.Classes.{repeated, still_firsts, more_firsts}
use Rattle.cs_table.proofs.filling.fill_item.Goals as goal

pub repeat_row-requires-clause-first : goal.repeat_row-requires-clause-first
repeat_row-requires-clause-first g c =
    let found = c.in-Some.ensures in
    subst (λ n. c.in-Some.first < n) (sym c.requires.before.items) (lt_trans (c.requires.firsts found.0 c.in-Some.first found.2).0 c.requires.item)

pub returns-in-Some-clause-filled : goal.returns-in-Some-clause-filled
returns-in-Some-clause-filled g c =
    let judge = c.args.judge.now in
    let found = c.in-Some.ensures in
    let first = c.requires.firsts found.0 c.in-Some.first found.2 in
    let is_of = g.J.Judge.is_of_class judge in
    let done = c.repeat_row.ensures in
    repeated (g.J.Judge.item_count judge) (g.J.Judge.rule_count judge) (g.J.Judge.answer judge) (g.met.J.Judge.looks_back judge) is_of (g.met.J.Judge.same_class judge) c.args.item c.in-Some.first found.0 c.args.done.now c.repeat_row.new.self c.requires.before first.0
    (subst (λ o. IfSome o (is_of c.args.item)) found.1 c.class-class.ensures) first.1 done.size done.taken done.others

pub returns-in-Some-clause-firsts : goal.returns-in-Some-clause-firsts
returns-in-Some-clause-firsts g c = still_firsts (g.J.Judge.is_of_class c.args.judge.now) c.args.item c.args.firsts.now c.requires.firsts

pub returns-in-None-clause-firsts : goal.returns-in-None-clause-firsts
returns-in-None-clause-firsts g c =
    more_firsts (g.J.Judge.is_of_class c.args.judge.now) c.args.item c.args.firsts.now c.requires.firsts c.class-class.result c.set_first.new.firsts c.class-class.ensures c.set_first.ensures

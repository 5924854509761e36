use Rattle.std.proofs.Common.{◌<◌, ◌≤◌, length, sym, refl, ◌∙◌, ap, subst, arith}
use Rattle.std.proofs.Math.Logic.{∥∥₁_elim}
use Rattle.std.specs.List.{AllByRecursion as Each}
use Rattle.std.proofs.lemmas.Option.{slice_get_read}
use Rattle.cs_flat.specs.Listed.{values}
use Rattle.cs_flat.specs.Nodes.{node_at}
use Rattle.cs_flat.specs.View.{item_view}
use Rattle.cs_table.specs.Judged.{verdicts}
use Rattle.cs_rules.specs.Answers.{step_by}
use Rattle.cs_rules.specs.Props.{below_prop}
use Rattle.cs_rules.proofs.Judged.{inside_weaker, answer_is}
use Rattle.cs_rules.proofs.book.Rulebook.judge.Goals as goal

pub invariant_of-known : goal.invariant_of-known
invariant_of-known g c =
    let s = c.args.self.now in
    let children = s.numbering.children.items in
    let within = λ (n : _) (e : _). subst (Each (λ q. q < n)) (sym c.deref.ensures.value) (subst (λ k. Each (λ q. q < k) children) e (∥∥₁_elim s.numbering.placed (below_prop _ children) (λ placed. placed.inside))) in
    record { here = omega (arith, c.requires.item, c.requires.items); within = within c.args.done.now.rules (sym c.requires.rules) }

pub holds-requires-clause-parts : goal.holds-requires-clause-parts
holds-requires-clause-parts g c =
    let s = c.args.self.now in
    let rules = s.numbering.rules.items in
    let rule = c.index.result.now in
    let there = slice_get_read rules (length rules) c.args.rule rule refl c.requires.rule c.index.ensures in
    let l : c.args.rule ≤ c.args.done.now.rules = omega (arith, c.requires.rule, c.requires.rules) in
    let m : length s.numbering.children.items ≤ length c.deref.result.now = omega (arith, ap length c.deref.ensures.value) in
    g.met.R.Asks.below_more rule c.args.rule (length s.numbering.children.items) c.args.done.now.rules (length c.deref.result.now) l m
    (∥∥₁_elim s.numbering.placed (g.met.R.Asks.below_prop rule c.args.rule (length s.numbering.children.items)) (λ placed. placed.parts c.args.rule rule there))

pub holds-requires-clause-children : goal.holds-requires-clause-children
holds-requires-clause-children g c =
    let x = item_view c.item-value.result in
    let l : c.args.item ≤ c.args.done.now.items = omega (arith, c.requires.item, c.requires.items) in
    inside_weaker c.args.item c.args.done.now.items l x (c.requires.lower c.args.item x c.item-value.ensures.found)

pub returns : goal.returns
returns g c =
    let s = c.args.self.now in
    let rules = s.numbering.rules.items in
    let rule = c.index.result.now in
    let there = slice_get_read rules (length rules) c.args.rule rule refl c.requires.rule c.index.ensures in
    let x = item_view c.item-value.result in
    let f = verdicts c.args.done.now in
    let ns = values c.args.flat.now in
    c.holds.ensures ∙ ap (λ l. step_by g.R.Asks.step l f c.args.item rule (node_at ns c.args.item) x) c.deref.ensures.value
    ∙ sym (answer_is g.R.Asks.step rules s.numbering.children.items ns c.args.flat.now c.args.item c.args.rule f rule x there c.item-value.ensures.found)

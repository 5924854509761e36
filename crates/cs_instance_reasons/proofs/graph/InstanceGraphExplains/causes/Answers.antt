use Rattle.std.proofs.Common.{◌<◌, ◌≤◌, ◌≡◌, length, map, sym, refl, ◌∙◌, ap, subst, arith, option_map, ◌++◌, OnOk}
use Rattle.std.proofs.Math.Logic.{∥∥₁_elim}
use Rattle.std.specs.List.{AllByRecursion as Each}
use Rattle.std.proofs.lemmas.List.{length-map}
use Rattle.std.proofs.lemmas.Option.{slice_get_read, slice_get-map}
use Rattle.cs_flat.specs.View.{item_view}
use Rattle.cs_table.specs.Judged.{verdicts}
use Rattle.cs_rules.specs.Props.{below_prop}
use Rattle.cs_rules.proofs.Judged.{inside_weaker}
use Rattle.cs_instance_reasons.specs.CauseLists.{causes_of}
use Rattle.cs_instance.specs.Props.{parts_prop, parts_weaker}
use Rattle.cs_instance.specs.Steps.{asked_of, numbered}
use Rattle.cs_instance_reasons.proofs.AllCauses.{told_at_pair, isnt_satisfied}
use Rattle.cs_instance_reasons.proofs.graph.InstanceGraphExplains.causes.Goals as goal

pub invariant_of-known : goal.invariant_of-known
invariant_of-known c =
    let s = c.args.self.now in
    let numbering = s.book.now.numbering in
    let children = numbering.children.items in
    let within = ∥∥₁_elim numbering.placed (below_prop (length numbering.rules.items) children) (λ placed. placed.inside) in
    let item = c.requires.refused.item in
    record {
      here = omega (arith, item, s.items);
      within = subst (Each (λ q. q < s.table.now.rules)) (sym c.deref.ensures.value) (subst (λ k. Each (λ q. q < k) children) (sym s.rules) within);
    }

pub tell_causes-requires-clause-parts : goal.tell_causes-requires-clause-parts
tell_causes-requires-clause-parts c =
    let s = c.args.self.now in
    let rules = s.book.now.numbering.rules.items in
    let children = s.book.now.numbering.children.items in
    let rule = c.index.result.now in
    let r = c.args.rule in
    let l : r < length rules = subst (λ n. r < n) (length-map rules (numbered children)) c.requires.refused.rule in
    let there = slice_get_read rules (length rules) r rule refl l c.index.ensures in
    let m : r ≤ s.table.now.rules = omega (arith, l, s.rules) in
    let n : length children ≤ length c.deref.result.now = omega (arith, ap length c.deref.ensures.value) in
    parts_weaker r (length children) s.table.now.rules (length c.deref.result.now) m n (asked_of rule) (∥∥₁_elim s.book.now.numbering.placed (parts_prop r (length children) (asked_of rule)) (λ placed. placed.parts r rule there))

pub tell_causes-requires-clause-children : goal.tell_causes-requires-clause-children
tell_causes-requires-clause-children c =
    let s = c.args.self.now in
    let x = item_view c.item-value.result in
    let item = c.requires.refused.item in
    let l : c.args.item ≤ s.table.now.items = omega (arith, item, s.items) in
    inside_weaker c.args.item s.table.now.items l x (s.lower c.args.item x c.item-value.ensures.found)

pub returns : goal.returns
returns c =
    let s = c.args.self.now in
    let rules = s.book.now.numbering.rules.items in
    let children = s.book.now.numbering.children.items in
    let rule = c.index.result.now in
    let r = c.args.rule in
    let i = c.args.item in
    let f = verdicts s.table.now in
    let x = item_view c.item-value.result in
    let l : r < length rules = subst (λ n. r < n) (length-map rules (numbered children)) c.requires.refused.rule in
    let there = slice_get_read rules (length rules) r rule refl l c.index.ensures in
    let found = c.item-value.ensures.found in
    told_at_pair (map (numbered children) rules) s.flat.now f i r (numbered children rule) x (slice_get-map (numbered children) rules r ∙ ap (option_map (numbered children)) there) found
    c.tell_causes.result c.args.found.now.items c.tell_causes.new.found.items c.item-value.ensures.ascends
    (isnt_satisfied rules children s.flat.now f i r rule x there found s.judged c.requires.refused.refused) c.requires.none
    (subst (λ ks. OnOk c.tell_causes.result (c.tell_causes.new.found.items ≡ c.args.found.now.items ++ causes_of (f i) f i r (numbered ks rule) x)) c.deref.ensures.value c.tell_causes.ensures)

use Rattle.std.proofs.Common.{List, None, sym, ◌∙◌, subst, arith}
use Rattle.std.proofs.lemmas.Option.{slice_get_within}
use Rattle.cs_reasons.specs.Listed.{IsFound, IsLinkAt}
use Rattle.cs_reasons.specs.declared.reasons.Link.{Link}
use Rattle.cs_reasons.proofs.Searched.{only_link}
use Rattle.cs_reasons.proofs.Ups.{last_keeps, no_link, has_up, up_set}
use Rattle.cs_reasons.proofs.listing.lead.Goals as goal

pub returns-in_default : goal.returns-in_default
returns-in_default g c =
    no_link c.args.links.now.items c.args.item c.args.rule c.args.cause c.args.below c.args.by
    (subst (λ (xs : List (Link g.row.C.Denot)). IsFound xs c.args.below c.args.by None) c.deref.ensures.value c.in_default.ensures)

pub index-requires : goal.index-requires
index-requires g c =
    let h = c.in-Some.ensures in
    let l = slice_get_within c.deref.result.now c.in-Some.place h.0 h.1 in
    let n = c.deref.ensures.len in
    omega arith

pub returns-then-is_some : goal.returns-then-is_some
returns-then-is_some g c =
    let links = c.args.links.now.items in
    let is = subst (λ (xs : List (Link g.row.C.Denot)). IsLinkAt xs c.in-Some.place c.args.below c.args.by) c.deref.ensures.value c.in-Some.ensures in
    has_up links c.args.item c.args.rule c.args.cause c.args.below c.args.by c.in-Some.place c.index.result.now is c.index.ensures (sym c.is_some.ensures ∙ c.if-is_some.true)
    (λ order b at. only_link links c.args.below c.args.by order b c.in-Some.place at is)

pub index_mut-requires : goal.index_mut-requires
index_mut-requires g c =
    let is = subst (λ (xs : List (Link g.row.C.Denot)). IsLinkAt xs c.in-Some.place c.args.below c.args.by) c.deref.ensures.value c.in-Some.ensures in
    let there = last_keeps c.args.links.now.items c.last_link.new.links.items c.args.item c.args.rule c.in_ok-link.link c.in_ok-link.ensures c.in-Some.place is.0 is.1 in
    let l = slice_get_within c.last_link.new.links.items c.in-Some.place is.0 there in
    let ok = c.last_link.new.links.ok in
    omega arith

pub returns : goal.returns
returns g c =
    let links = c.args.links.now.items in
    let is = subst (λ (xs : List (Link g.row.C.Denot)). IsLinkAt xs c.in-Some.place c.args.below c.args.by) c.deref.ensures.value c.in-Some.ensures in
    up_set links c.args.item c.args.rule c.args.cause c.args.below c.args.by c.last_link.new.links.items c.in-Some.place c.in_ok-link.link c.index.result.now c.index_mut.result.now is c.index.ensures
    (sym c.is_some.ensures ∙ c.if-is_some.false) c.in_ok-link.ensures c.index_mut.ensures.value

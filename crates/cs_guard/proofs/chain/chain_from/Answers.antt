use Rattle.std.proofs.Common.{◌≡◌, ℕ, ◌<◌, List, [], ◌∷◌, ◌++◌, get_or, sym, ap, ◌∙◌, subst, arith}
use Rattle.cs_graph.specs.Graph.{graph_of}
use Rattle.cs_graph.proofs.Marks.{graph_long}
use Rattle.cs_guard.proofs.Descents.{IsUnderWay, begun, gone_on, ended}
use Rattle.cs_guard.proofs.chain.chain_from.Goals as goal

pub loop-next-init : goal.loop-next-init
loop-next-init c =
    let G = graph_of c.args.graph.now.items in
    let hs = c.args.heights.now.items in
    let first = c.args.first in
    let pushed : c.push.new.self.items ≡ first ∷ [] = c.in_ok-push.ensures.items ∙ ap (λ (ns : List ℕ). ns ++ first ∷ []) c.new-numbers.ensures.items in
    subst (λ ns. IsUnderWay G hs first ns first) (sym pushed) (begun G hs c.requires.within c.requires.heights first (omega (arith, c.requires.first, c.requires.heights.long)))

pub next_below-requires-clause-long : goal.next_below-requires-clause-long
next_below-requires-clause-long c = c.requires.heights.long ∙ graph_long c.args.graph.now.items

pub next_below-requires-clause-inside : goal.next_below-requires-clause-inside
next_below-requires-clause-inside c = let l = c.loop-next.invariant.last_inside in omega (arith, l, c.requires.heights.long)

pub loop-next-preserved : goal.loop-next-preserved
loop-next-preserved c =
    let l = c.loop-next in
    let next = c.in-Some.next in
    subst (λ ns. IsUnderWay (graph_of c.args.graph.now.items) c.args.heights.now.items c.args.first ns next) (sym c.in_ok-push-2.ensures.items)
    (gone_on (graph_of c.args.graph.now.items) c.args.heights.now.items c.requires.within c.requires.heights c.args.first l.numbers.items l.last next l.invariant c.in-Some.ensures.0 c.in-Some.ensures.1)

pub returns : goal.returns
returns c =
    let l = c.loop-next in
    ended (graph_of c.args.graph.now.items) c.args.heights.now.items c.requires.within c.requires.heights c.args.first l.numbers.items l.last l.invariant c.in_default.ensures

use Rattle.std.proofs.Common.{◌≡◌, ◌++◌, [], ◌∷◌, None, Some, sym, ap, ◌∙◌, subst, arith}
use Rattle.cs_graph.specs.Graph.{graph_of}
use Rattle.cs_graph.specs.Paths.{tail_from, IsTurned}
use Rattle.cs_graph.specs.Walk.{Onward, Passed, Stopped, frame_of, numbers_of}
use Rattle.cs_graph.specs.declared.walk.VisitState.TheVariants.{New}
use Rattle.cs_graph.proofs.Marks.{read_at, graph_long}
use Rattle.cs_graph.proofs.Places.{on_end}
use Rattle.cs_graph.proofs.Frames.{finishing, entering, cycle_closed, open_of, last_within}
use Rattle.cs_graph.proofs.walk.step.Goals as goal

pub pass_done-requires-clause-inside : goal.pass_done-requires-clause-inside
pass_done-requires-clause-inside c =
    let w = c.requires.walking in
    let l = last_within (graph_of c.args.graph.now) c.args.walk.now.marks.items c.args.walk.now.path.items c.args.last c.args.last w in
    omega (arith, l, w.state.marked.long, graph_long c.args.graph.now)

pub pass_done-requires-clause-passed : goal.pass_done-requires-clause-passed
pass_done-requires-clause-passed c =
    let w = c.requires.walking in
    subst (λ M. Passed (graph_of c.args.graph.now) M c.args.last) (sym c.deref.ensures.value) (w.passed c.args.last (on_end c.args.last c.args.walk.now.path.items))

pub returns-in_default : goal.returns-in_default
returns-in_default c = finishing (graph_of c.args.graph.now) c.args.walk.now.marks.items c.args.walk.now.path.items c.args.last c.pass_done.new.frame c.requires.walking
    (subst (λ M. Stopped (graph_of c.args.graph.now) M c.args.last.number c.pass_done.new.frame None) c.deref.ensures.value c.in_default.ensures)

pub index_mut-requires : goal.index_mut-requires
index_mut-requires c =
    let l = last_within (graph_of c.args.graph.now) c.args.walk.now.marks.items c.args.walk.now.path.items c.args.last c.args.last c.requires.walking in
    omega (arith, l, c.pass_done.ensures.same)

pub index-requires : goal.index-requires
index-requires c =
    let w = c.requires.walking in
    let stop = c.in-Some.ensures in
    let low = c.requires.within c.pass_done.new.frame.number c.in-Some.next stop.stops.0 in
    omega (arith, low, w.state.marked.long)

pub enter-requires : goal.enter-requires
enter-requires c =
    let w = c.requires.walking in
    let stop = c.in-Some.ensures in
    let low = c.requires.within c.pass_done.new.frame.number c.in-Some.next stop.stops.0 in
    omega (arith, low, w.state.marked.long)

pub returns-in-New : goal.returns-in-New
returns-in-New c =
    let G = graph_of c.args.graph.now in
    let M = c.args.walk.now.marks.items in
    let S = c.args.walk.now.path.items in
    let f = c.pass_done.new.frame in
    let n = c.in-Some.next in
    let w = c.requires.walking in
    let stop = subst (λ N. Stopped G N c.args.last.number f (Some n)) c.deref.ensures.value c.in-Some.ensures in
    let low = c.requires.within f.number n stop.stops.0 in
    let at = read_at M n c.index.result.now New (omega (arith, low, w.state.marked.long)) (sym c.index.ensures ∙ c.in-New.is) in
    let path : c.enter.new.walk.path.items ≡ (S ++ f ∷ []) ++ frame_of n ∷ [] = c.in_ok-enter.ensures.path ∙ ap (λ s. s ++ frame_of n ∷ []) c.in_ok-push.ensures.items in
    subst (λ T. Onward G M c.enter.new.walk.marks.items S T) (sym path) (subst (λ N. Onward G M N S ((S ++ f ∷ []) ++ frame_of n ∷ [])) (sym c.in_ok-enter.ensures.marks) (entering G M S c.args.last f w n stop at))

pub returns : goal.returns
returns c =
    let G = graph_of c.args.graph.now in
    let M = c.args.walk.now.marks.items in
    let S = c.args.walk.now.path.items in
    let f = c.pass_done.new.frame in
    let n = c.in-Some.next in
    let w = c.requires.walking in
    let stop = subst (λ N. Stopped G N c.args.last.number f (Some n)) c.deref.ensures.value c.in-Some.ensures in
    let low = c.requires.within f.number n stop.stops.0 in
    let at = open_of M n c.index.result.now (omega (arith, low, w.state.marked.long)) (λ e. c.in_default-index.not-New (c.index.ensures ∙ e)) stop.stops.1 in
    let ns = c.in_ok-numbers.numbers.items in
    let path : c.deref-2.result.now ≡ S ++ f ∷ [] = c.deref-2.ensures.value ∙ c.in_ok-push.ensures.items in
    cycle_closed G M S c.args.last f w n stop at ns (subst (λ p. IsTurned (tail_from n (numbers_of p)) ns) path c.in_ok-numbers.ensures.turned) c.in_ok-numbers.ensures.lowest

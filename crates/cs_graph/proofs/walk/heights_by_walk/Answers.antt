use Rattle.std.proofs.Common.{◌≡◌, ℕ, ◌+◌, ◌<◌, [], Some, length, map, sym, ap, subst, ◌∙◌, arith}
use Rattle.std.proofs.lemmas.Option.{get_or_from_slice_get, slice_get-get_or}
use Rattle.std.proofs.lemmas.Result.{err_from_is_err_and}
use Rattle.cs_graph.specs.Graph.{graph_of}
use Rattle.cs_graph.specs.Walk.{State, IsDone, Solved, height_of}
use Rattle.cs_graph.specs.declared.walk.Walk.{Walk}
use Rattle.cs_graph.specs.declared.walk.VisitState.TheVariants.{New}
use Rattle.cs_graph.proofs.Marks.{graph_long, keeps_same}
use Rattle.cs_graph.proofs.Frames.{done_of}
use Rattle.cs_graph.proofs.AllDone.{one_more, solved}
use Rattle.cs_graph.proofs.walk.heights_by_walk.Goals as goal
use Rattle.cs_graph.proofs.walk.heights_by_walk.Goals.{in-New+in_ok-walk_from, in_default}

pub index-requires : goal.index-requires
index-requires c = let s = c.loop-number.invariant.state in omega (arith, s.marked.long, graph_long c.args.graph.now)

pub walk_from-requires-clause-new : goal.walk_from-requires-clause-new
walk_from-requires-clause-new c =
    let s = c.loop-number.invariant.state in
    slice_get-get_or c.loop-number.walk.marks.items c.loop-number.number c.index.result.now (omega (arith, s.marked.long, graph_long c.args.graph.now))
    ∙ ap (λ m. Some m) (sym c.index.ensures ∙ c.in-New.is)

pub loop-number-preserved : goal.loop-number-preserved
loop-number-preserved c =
    let G = graph_of c.args.graph.now in
    let inv = c.loop-number.invariant in
    let M = c.loop-number.walk.marks.items in
    let n = c.loop-number.number in
    let P : Walk → Type 0 = λ v. (State G v.marks.items [] × ((k : ℕ) → k < n + 1 → IsDone v.marks.items k)) × (v.path.items ≡ []) in
    let both : P c.match-index.walk = elim c.match-index.branch [
      | in-New+in_ok-walk_from w ↦
          let got = w.in_ok-walk_from.ensures.walked in
          subst P (sym w.walk-is) ((got.state, one_more M w.walk_from.new.walk.marks.items n got.kept inv.done got.done), w.in_ok-walk_from.ensures.path)
      | in_default w ↦
          let here = done_of G M n inv.state (λ e. w.in_default.not-New (c.index.ensures ∙ get_or_from_slice_get M n New c.index.result.now e)) (let s = inv.state in omega (arith, s.marked.long, graph_long c.args.graph.now, c.loop-number-test.true)) in
          subst P (sym w.walk-is) ((inv.state, one_more M M n (keeps_same M) inv.done here), inv.path)
    ] in record { state = both.0.0; path = both.1; done = both.0.1 }

pub returns : goal.returns
returns c =
    let G = graph_of c.args.graph.now in
    let M = c.loop-number.walk.marks.items in
    let inv = c.loop-number.invariant in
    let all = λ (n : ℕ) (l : n < length G). inv.done n (omega (arith, l, graph_long c.args.graph.now)) in
    subst (Solved G) (sym (c.in_ok-heights_of.ensures ∙ ap (map height_of) c.deref.ensures.value)) (solved G M inv.state all)

pub returns-in_err-walk_from : goal.returns-in_err-walk_from
returns-in_err-walk_from c =
    let p = err_from_is_err_and c.from_residual-in_err-walk_from.result c.from_residual-in_err-walk_from.ensures.1 in
    rw (p.1, p.2) c.in_err-walk_from.ensures.walked

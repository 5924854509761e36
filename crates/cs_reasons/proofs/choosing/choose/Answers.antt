use Rattle.std.proofs.Common.{◌≡◌, ◌+◌, Some, subst, arith}
use Rattle.std.specs.Prelude.{slice_get}
use Rattle.cs_reasons.specs.Reached.{IsNext}
use Rattle.cs_reasons.proofs.Bits.{before_end}
use Rattle.cs_reasons.proofs.Marked.{is_within}
use Rattle.cs_reasons.proofs.Reached.{reached_refused}
use Rattle.cs_reasons.proofs.Passes.{fewer_left, is_next}
use Rattle.cs_reasons.proofs.choosing.choose.Goals as goal

pub first_from-at-requires : goal.first_from-at-requires
first_from-at-requires g c =
    let h = g.met.G.Explains.within c.args.graph.now c.args.item c.args.rule c.requires.refused in
    let n = c.requires.items in
    record { item = let l = h.0 in omega arith }

pub loop-at-init : goal.loop-at-init
loop-at-init g c = is_next g.G.Cause.Cause.leads_to (g.G.Explains.is_cause c.args.graph.now) c.args.item c.args.rule c.args.marks.now 0 0 c.first_from-at.result c.first_from-at.ensures

pub causes-requires-clause-refused : goal.causes-requires-clause-refused
causes-requires-clause-refused g c =
    let graph = c.args.graph.now in
    let L = g.G.Cause.Cause.leads_to in
    let next = subst (λ at. IsNext L (g.G.Explains.is_cause graph) c.args.item c.args.rule c.args.marks.now at) c.in-Some.is c.loop-at.invariant in
    reached_refused L (g.G.Explains.is_cause graph) (g.G.Explains.is_refused graph) (g.met.G.Explains.earlier graph) c.args.item c.args.rule c.requires.refused c.in-Some.from c.in-Some.by (c.requires.reached.sound c.in-Some.from c.in-Some.by next)

pub keep_near-requires : goal.keep_near-requires
keep_near-requires g c =
    let graph = c.args.graph.now in
    let L = g.G.Cause.Cause.leads_to in
    let next = subst (λ at. IsNext L (g.G.Explains.is_cause graph) c.args.item c.args.rule c.args.marks.now at) c.in-Some.is c.loop-at.invariant in
    record {
      refused = reached_refused L (g.G.Explains.is_cause graph) (g.G.Explains.is_refused graph) (g.met.G.Explains.earlier graph) c.args.item c.args.rule c.requires.refused c.in-Some.from c.in-Some.by (c.requires.reached.sound c.in-Some.from c.in-Some.by next);
      causes = λ k x at. c.in_ok-causes.ensures.sound k x (subst (λ xs. slice_get xs k ≡ Some x) c.deref-in-Some.ensures.value at);
    }

pub overflow_add-by : goal.overflow_add-by
overflow_add-by g c =
    let m = c.args.marks.now in
    let next = subst (λ at. IsNext g.G.Cause.Cause.leads_to (g.G.Explains.is_cause c.args.graph.now) c.args.item c.args.rule m at) c.in-Some.is c.loop-at.invariant in
    let h = is_within m c.in-Some.from c.in-Some.by next in
    let l = before_end c.in-Some.from m.items m.rules c.in-Some.by h.0 h.1 in
    let fits = m.fits in
    omega arith

pub first_from-at-requires-in-Some : goal.first_from-at-requires-in-Some
first_from-at-requires-in-Some g c =
    let m = c.args.marks.now in
    let next = subst (λ at. IsNext g.G.Cause.Cause.leads_to (g.G.Explains.is_cause c.args.graph.now) c.args.item c.args.rule m at) c.in-Some.is c.loop-at.invariant in
    record { item = (is_within m c.in-Some.from c.in-Some.by next).0 }

pub loop-at-smaller : goal.loop-at-smaller
loop-at-smaller g c =
    let m = c.args.marks.now in
    let next = subst (λ at. IsNext g.G.Cause.Cause.leads_to (g.G.Explains.is_cause c.args.graph.now) c.args.item c.args.rule m at) c.in-Some.is c.loop-at.invariant in
    fewer_left m c.loop-at.at c.in-Some.from c.in-Some.by c.first_from-at-in-Some.result c.in-Some.is next c.first_from-at-in-Some.ensures

pub loop-at-preserved : goal.loop-at-preserved
loop-at-preserved g c = is_next g.G.Cause.Cause.leads_to (g.G.Explains.is_cause c.args.graph.now) c.args.item c.args.rule c.args.marks.now c.in-Some.from (c.in-Some.by + 1) c.first_from-at-in-Some.result c.first_from-at-in-Some.ensures

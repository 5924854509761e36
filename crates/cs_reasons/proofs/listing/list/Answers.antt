use Rattle.std.proofs.Common.{◌≡◌, ◌+◌, length, refl, sym, subst, arith}
use Rattle.std.proofs.lemmas.Option.{slice_get_read}
use Rattle.cs_reasons.specs.Reached.{IsNext}
use Rattle.cs_reasons.specs.Reasons.{AreCauses}
use Rattle.cs_reasons.specs.Listed.{AreListed}
use Rattle.cs_reasons.specs.Passed.{IsPairTo, IsCauseTo, AreListedTo}
use Rattle.cs_reasons.proofs.Bits.{before_end}
use Rattle.cs_reasons.proofs.Marked.{is_within}
use Rattle.cs_reasons.proofs.Reached.{reached_refused}
use Rattle.cs_reasons.proofs.Passes.{nothing_listed, pair_begun, cause_listed, counts_on, pair_listed, fewer_left, is_next, all_listed}
use Rattle.cs_reasons.proofs.listing.list.Goals as goal

pub first_from-at-requires : goal.first_from-at-requires
first_from-at-requires g c =
    let h = g.met.G.Explains.within c.args.graph.now c.args.item c.args.rule c.requires.refused in
    let n = c.requires.items in
    record { item = let l = h.0 in omega arith }

pub loop-at-init : goal.loop-at-init
loop-at-init g c =
    let graph = c.args.graph.now in
    record {
      next = is_next g.G.Cause.Cause.leads_to (g.G.Explains.is_cause graph) c.args.item c.args.rule c.args.marks.now 0 0 c.first_from-at.result c.first_from-at.ensures;
      listed = nothing_listed g.G.Cause.Cause.leads_to (g.G.Explains.is_cause graph) (g.G.Explains.is_refused graph) (g.met.G.Explains.earlier graph) c.args.item c.args.rule c.args.most c.args.marks.now c.requires.reached c.first_from-at.result c.first_from-at.ensures
          (record { links = c.new.result; told = c.new-2.result; count = 0 }) c.new.ensures.items c.new-2.ensures.items refl;
    }

pub causes-requires-clause-refused : goal.causes-requires-clause-refused
causes-requires-clause-refused g c =
    let graph = c.args.graph.now in
    let L = g.G.Cause.Cause.leads_to in
    let next = subst (λ at. IsNext L (g.G.Explains.is_cause graph) c.args.item c.args.rule c.args.marks.now at) c.in-Some.is c.loop-at.invariant.next in
    reached_refused L (g.G.Explains.is_cause graph) (g.G.Explains.is_refused graph) (g.met.G.Explains.earlier graph) c.args.item c.args.rule c.requires.refused c.in-Some.from c.in-Some.by (c.requires.reached.sound c.in-Some.from c.in-Some.by next)

pub loop-cause-init : goal.loop-cause-init
loop-cause-init g c =
    let graph = c.args.graph.now in
    let L = g.G.Cause.Cause.leads_to in
    let next = subst (λ at. IsNext L (g.G.Explains.is_cause graph) c.args.item c.args.rule c.args.marks.now at) c.in-Some.is c.loop-at.invariant.next in
    let w = c.requires.reached.sound c.in-Some.from c.in-Some.by next in
    let cs = c.deref-cause-items.result.now in
    let causes = subst (AreCauses (g.G.Explains.is_cause graph c.in-Some.from c.in-Some.by)) (sym c.deref-cause-items.ensures.value) c.in_ok-causes.ensures in
    record {
      listed = pair_begun L (g.G.Explains.is_cause graph) (g.G.Explains.is_refused graph) (g.met.G.Explains.earlier graph) c.args.item c.args.rule c.args.most c.in-Some.from c.in-Some.by cs causes w c.loop-at.listed
          (subst (λ at. AreListedTo L (g.G.Explains.is_cause graph) c.args.item c.args.rule c.args.most at c.loop-at.listed) c.in-Some.is c.loop-at.invariant.listed);
      grown = omega arith;
    }

pub loop-cause-preserved : goal.loop-cause-preserved
loop-cause-preserved g c =
    let graph = c.args.graph.now in
    let L = g.G.Cause.Cause.leads_to in
    let next = subst (λ at. IsNext L (g.G.Explains.is_cause graph) c.args.item c.args.rule c.args.marks.now at) c.in-Some.is c.loop-at.invariant.next in
    let w = c.requires.reached.sound c.in-Some.from c.in-Some.by next in
    let cs = c.deref-cause-items.result.now in
    let causes = subst (AreCauses (g.G.Explains.is_cause graph c.in-Some.from c.in-Some.by)) (sym c.deref-cause-items.ensures.value) c.in_ok-causes.ensures in
    let here = slice_get_read cs (length cs) c.loop-cause.cause-index c.cause-item.result refl c.loop-cause-test.true c.cause-item.is in
    record {
      listed = cause_listed L (g.G.Explains.is_cause graph) (g.G.Explains.is_refused graph) (g.met.G.Explains.earlier graph) c.args.item c.args.rule c.args.most c.in-Some.from c.in-Some.by cs causes w c.loop-cause.cause-index c.cause-item.result here
          c.loop-cause.listed c.list_cause.new.listed c.loop-cause.invariant.listed c.in_ok-list_cause.ensures;
      grown = let h = c.loop-cause.invariant.grown in let k = counts_on c.args.most c.in-Some.from c.in-Some.by c.cause-item.result (L c.cause-item.result) c.loop-cause.listed c.list_cause.new.listed c.in_ok-list_cause.ensures in omega arith;
    }

pub overflow_add-by : goal.overflow_add-by
overflow_add-by g c =
    let m = c.args.marks.now in
    let next = subst (λ at. IsNext g.G.Cause.Cause.leads_to (g.G.Explains.is_cause c.args.graph.now) c.args.item c.args.rule m at) c.in-Some.is c.loop-at.invariant.next in
    let h = is_within m c.in-Some.from c.in-Some.by next in
    let l = before_end c.in-Some.from m.items m.rules c.in-Some.by h.0 h.1 in
    let fits = m.fits in
    omega arith

pub first_from-at-requires-in-Some : goal.first_from-at-requires-in-Some
first_from-at-requires-in-Some g c =
    let m = c.args.marks.now in
    let next = subst (λ at. IsNext g.G.Cause.Cause.leads_to (g.G.Explains.is_cause c.args.graph.now) c.args.item c.args.rule m at) c.in-Some.is c.loop-at.invariant.next in
    record { item = (is_within m c.in-Some.from c.in-Some.by next).0 }

pub loop-at-smaller : goal.loop-at-smaller
loop-at-smaller g c =
    let m = c.args.marks.now in
    let next = subst (λ at. IsNext g.G.Cause.Cause.leads_to (g.G.Explains.is_cause c.args.graph.now) c.args.item c.args.rule m at) c.in-Some.is c.loop-at.invariant.next in
    fewer_left m c.loop-at.at c.in-Some.from c.in-Some.by c.first_from-at-in-Some.result c.in-Some.is next c.first_from-at-in-Some.ensures

pub loop-at-preserved : goal.loop-at-preserved
loop-at-preserved g c =
    let graph = c.args.graph.now in
    let L = g.G.Cause.Cause.leads_to in
    let m = c.args.marks.now in
    let next = subst (λ at. IsNext L (g.G.Explains.is_cause graph) c.args.item c.args.rule m at) c.in-Some.is c.loop-at.invariant.next in
    let w = c.requires.reached.sound c.in-Some.from c.in-Some.by next in
    let cs = c.deref-cause-items.result.now in
    let causes = subst (AreCauses (g.G.Explains.is_cause graph c.in-Some.from c.in-Some.by)) (sym c.deref-cause-items.ensures.value) c.in_ok-causes.ensures in
    let whole : c.loop-cause.cause-index ≡ length cs = omega (arith, c.loop-cause-test.false, c.loop-cause.auto.cause-index-end) in
    let listed = subst (λ h. AreListed L (IsPairTo L (g.G.Explains.is_cause graph) c.args.item c.args.rule c.in-Some.from c.in-Some.by) (IsCauseTo L (g.G.Explains.is_cause graph) c.args.item c.args.rule cs h c.in-Some.from c.in-Some.by) c.args.most c.loop-cause.listed) whole c.loop-cause.invariant.listed in
    record {
      next = is_next L (g.G.Explains.is_cause graph) c.args.item c.args.rule m c.in-Some.from (c.in-Some.by + 1) c.first_from-at-in-Some.result c.first_from-at-in-Some.ensures;
      listed = pair_listed L (g.G.Explains.is_cause graph) (g.G.Explains.is_refused graph) (g.met.G.Explains.earlier graph) c.args.item c.args.rule c.args.most c.in-Some.from c.in-Some.by cs causes w m c.requires.reached
          c.first_from-at-in-Some.result c.first_from-at-in-Some.ensures c.loop-at.listed c.loop-cause.listed
          (subst (λ at. AreListedTo L (g.G.Explains.is_cause graph) c.args.item c.args.rule c.args.most at c.loop-at.listed) c.in-Some.is c.loop-at.invariant.listed)
          (λ l. let h = c.loop-cause.invariant.grown in omega arith) listed;
    }

pub returns : goal.returns
returns g c =
    let graph = c.args.graph.now in
    let L = g.G.Cause.Cause.leads_to in
    all_listed L (g.G.Explains.is_cause graph) (g.G.Explains.is_refused graph) (g.met.G.Explains.earlier graph) c.args.item c.args.rule c.args.most c.loop-at.listed
    (subst (λ at. AreListedTo L (g.G.Explains.is_cause graph) c.args.item c.args.rule c.args.most at c.loop-at.listed) c.in_default.is c.loop-at.invariant.listed)

use Rattle.std.proofs.Common.{◌<◌, length, sym, subst, ◌∙◌, arith}
use Rattle.cs_reasons.specs.Reached.{AreMarked, AreReachedTo, IsLedTo}
use Rattle.cs_reasons.proofs.Marked.{is_within}
use Rattle.cs_reasons.proofs.Reached.{reached_refused, started, stepped, finished, fewer_places}
use Rattle.cs_reasons.proofs.reach.reach.Goals as goal

pub loop-at-init : goal.loop-at-init
loop-at-init g c = record {
  items = c.mark.ensures.items ∙ c.in_ok-marks.ensures.items ∙ c.items.ensures;
  rules = c.mark.ensures.rules ∙ c.in_ok-marks.ensures.rules ∙ c.rules.ensures;
  reached = started g.G.Cause.Cause.leads_to (g.G.Explains.is_cause c.args.graph.now) (g.G.Explains.is_refused c.args.graph.now) (g.met.G.Explains.earlier c.args.graph.now) c.args.item c.args.rule
      c.mark.new.self c.mark.ensures.marked (λ a b apart. c.mark.ensures.others a b apart ∙ c.in_ok-marks.ensures.none a b);
}

pub causes-requires-clause-refused : goal.causes-requires-clause-refused
causes-requires-clause-refused g c =
    let graph = c.args.graph.now in
    let now = subst (λ at. AreReachedTo g.G.Cause.Cause.leads_to (g.G.Explains.is_cause graph) c.args.item c.args.rule at c.loop-at.marks) c.in-Some.is c.loop-at.invariant.reached in
    reached_refused g.G.Cause.Cause.leads_to (g.G.Explains.is_cause graph) (g.G.Explains.is_refused graph) (g.met.G.Explains.earlier graph) c.args.item c.args.rule c.requires c.in-Some.from c.in-Some.by (now.sound c.in-Some.from c.in-Some.by now.next)

pub mark_all-requires : goal.mark_all-requires
mark_all-requires g c = λ j q h.
    let graph = c.args.graph.now in
    let led = subst (λ cs. IsLedTo g.G.Cause.Cause.leads_to cs (length cs) j q) c.deref.ensures.value h in
    let fits = g.met.G.Explains.within graph j q (g.met.G.Explains.earlier graph c.in-Some.from c.in-Some.by j q led.1 (c.in_ok-causes.ensures.sound led.0 led.1 led.3) led.4).0 in
    (subst (λ n. j < n) (sym c.loop-at.invariant.items) fits.0, subst (λ n. q < n) (sym c.loop-at.invariant.rules) fits.1)

pub last_before-at-requires : goal.last_before-at-requires
last_before-at-requires g c =
    let graph = c.args.graph.now in
    let now = subst (λ at. AreReachedTo g.G.Cause.Cause.leads_to (g.G.Explains.is_cause graph) c.args.item c.args.rule at c.loop-at.marks) c.in-Some.is c.loop-at.invariant.reached in
    let fits = is_within c.loop-at.marks c.in-Some.from c.in-Some.by now.next in
    let items = c.mark_all.ensures.items in
    let rules = c.mark_all.ensures.rules in
    record { item = omega (arith, fits.0); rule = omega (arith, fits.1) }

pub loop-at-smaller : goal.loop-at-smaller
loop-at-smaller g c =
    fewer_places c.loop-at.marks c.mark_all.new.marks c.loop-at.at c.in-Some.from c.in-Some.by c.last_before-at.result c.in-Some.is c.mark_all.ensures.rules c.last_before-at.ensures

pub loop-at-preserved : goal.loop-at-preserved
loop-at-preserved g c =
    let graph = c.args.graph.now in
    let L = g.G.Cause.Cause.leads_to in
    let now = subst (λ at. AreReachedTo L (g.G.Explains.is_cause graph) c.args.item c.args.rule at c.loop-at.marks) c.in-Some.is c.loop-at.invariant.reached in
    let found = c.causes.new.found.items in
    record {
      items = c.mark_all.ensures.items ∙ c.loop-at.invariant.items;
      rules = c.mark_all.ensures.rules ∙ c.loop-at.invariant.rules;
      reached = stepped L (g.G.Explains.is_cause graph) (g.G.Explains.is_refused graph) (g.met.G.Explains.earlier graph) c.args.item c.args.rule c.in-Some.from c.in-Some.by found c.loop-at.marks c.mark_all.new.marks c.last_before-at.result
          now c.in_ok-causes.ensures (subst (λ cs. AreMarked L cs (length cs) c.loop-at.marks c.mark_all.new.marks) c.deref.ensures.value c.mark_all.ensures.marked) c.last_before-at.ensures;
    }

pub returns-clause-reached : goal.returns-clause-reached
returns-clause-reached g c =
    let graph = c.args.graph.now in
    let L = g.G.Cause.Cause.leads_to in
    finished L (g.G.Explains.is_cause graph) (g.G.Explains.is_refused graph) (g.met.G.Explains.earlier graph) c.args.item c.args.rule c.loop-at.marks
    (subst (λ at. AreReachedTo L (g.G.Explains.is_cause graph) c.args.item c.args.rule at c.loop-at.marks) c.in_default.is c.loop-at.invariant.reached)

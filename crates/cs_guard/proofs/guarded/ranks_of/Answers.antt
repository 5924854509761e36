use Rattle.std.proofs.Common.{map, get_or, sym, subst}
use Rattle.cs_graph.specs.Chains.{NoCycle}
use Rattle.cs_graph.specs.Graph.{graph_of, Refers, AreHeights, IsRefusal, IsLowestCycle}
use Rattle.cs_graph.proofs.Places.{on_get}
use Rattle.cs_guard.specs.Numbered.{IsGraphOf, name_of}
use Rattle.cs_guard.proofs.Numbers.{cycle_inside, cycle_by_name, guarded_no_cycle}
use Rattle.cs_guard.proofs.guarded.ranks_of.Goals as goal

pub heights-requires : goal.heights-requires
heights-requires c =
    let is = subst (λ vs. IsGraphOf c.args.package.now (graph_of vs)) (sym c.deref.ensures.value) c.in_ok-graph.ensures.graph in
    is.within

pub short_ranks-requires-clause-heights : goal.short_ranks-requires-clause-heights
short_ranks-requires-clause-heights c = subst (λ vs. AreHeights (graph_of vs) c.in-Ok.ranks.items) c.deref.ensures.value c.in-Ok.ensures.found

pub short_ranks-requires-clause-acyclic : goal.short_ranks-requires-clause-acyclic
short_ranks-requires-clause-acyclic c = subst (λ vs. NoCycle (Refers (graph_of vs))) c.deref.ensures.value c.in-Ok.ensures.acyclic

pub cycle_fault-requires-clause-inside : goal.cycle_fault-requires-clause-inside
cycle_fault-requires-clause-inside c =
    let G = graph_of c.deref.result.now in
    let is = subst (λ vs. IsGraphOf c.args.package.now (graph_of vs)) (sym c.deref.ensures.value) c.in_ok-graph.ensures.graph in
    let numbers = c.deref-in-Err-Cycle.result.now in
    let cycle = subst (IsLowestCycle G) (sym c.deref-in-Err-Cycle.ensures.value) (subst (λ f. IsRefusal f G) c.in-Err-Cycle.field-0-is c.in-Err-Cycle.ensures.refused) in
    λ k d l. cycle_inside c.args.package.now G is c.graph_of_package.ensures.distinct numbers cycle (get_or numbers k d) (on_get numbers k d l)

pub cycle_fault-requires-clause-cycle : goal.cycle_fault-requires-clause-cycle
cycle_fault-requires-clause-cycle c =
    let G = graph_of c.deref.result.now in
    let is = subst (λ vs. IsGraphOf c.args.package.now (graph_of vs)) (sym c.deref.ensures.value) c.in_ok-graph.ensures.graph in
    let numbers = c.deref-in-Err-Cycle.result.now in
    let cycle = subst (IsLowestCycle G) (sym c.deref-in-Err-Cycle.ensures.value) (subst (λ f. IsRefusal f G) c.in-Err-Cycle.field-0-is c.in-Err-Cycle.ensures.refused) in
    cycle_by_name c.args.package.now G is c.graph_of_package.ensures.distinct numbers cycle

pub returns-clause-only : goal.returns-clause-only
returns-clause-only c =
    let G = graph_of c.deref.result.now in
    let is = subst (λ vs. IsGraphOf c.args.package.now (graph_of vs)) (sym c.deref.ensures.value) c.in_ok-graph.ensures.graph in
    let refused = subst (λ f. IsRefusal f G) c.in-Err-Cycle.field-0-is c.in-Err-Cycle.ensures.refused in
    let numbers = c.in-Err-Cycle.numbers.items in
    λ g. absurd (guarded_no_cycle c.args.package.now (map (name_of c.args.package.now) numbers) g (cycle_by_name c.args.package.now G is c.graph_of_package.ensures.distinct numbers refused))

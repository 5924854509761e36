use Rattle.std.proofs.Common.{ℕ, Vec, Result, Ok, Err, refl}
use Rattle.std.specs.declared.alloc.Global.{Global}
use Rattle.std.specs.Result.{IfOk, IfErr, OnOk, IsOkUnless}
use Rattle.cs_graph.specs.Chains.{NoCycle}
use Rattle.cs_graph.specs.Graph.{Graph, Refers, AreHeights, FallAlong, IsRefusal, graph_of}
use Rattle.cs_graph.specs.Walk.{Found}
use Rattle.cs_graph.specs.declared.fault.GraphFault.{GraphFault}
use Rattle.cs_graph.specs.declared.fault.GraphFault.TheVariants.{OutOfMemory, Cycle}
use Rattle.cs_graph.proofs.Paths.{none_closed}
use Rattle.cs_graph.proofs.walk.heights.Goals as goal

found_of : (G : Graph) (r : Result (Vec ℕ Global) GraphFault) → Found G r → IfOk r (λ v. AreHeights G v.items)
found_of G (Ok v) h = h.each
found_of G (Err e) h = tt

falls_of : (G : Graph) (r : Result (Vec ℕ Global) GraphFault) → Found G r → IfOk r (λ v. FallAlong G v.items)
falls_of G (Ok v) h = h.fall
falls_of G (Err e) h = tt

acyclic_of : (G : Graph) (r : Result (Vec ℕ Global) GraphFault) → Found G r → OnOk r (NoCycle (Refers G))
acyclic_of G (Ok v) h = h.acyclic
acyclic_of G (Err e) h = tt

refused_of : (G : Graph) (r : Result (Vec ℕ Global) GraphFault) → Found G r → IfErr r (λ e. IsRefusal e G)
refused_of G (Ok v) h = tt
refused_of G (Err e) h = h

only_of : (G : Graph) (r : Result (Vec ℕ Global) GraphFault) → Found G r → NoCycle (Refers G) → IsOkUnless r OutOfMemory
only_of G (Ok v) h none = tt
only_of G (Err OutOfMemory) h none = refl
only_of G (Err (Cycle v)) h none = absurd (none_closed (Refers G) none v.items h.cycle.0)

pub returns : goal.returns
returns c =
    let G = graph_of c.args.graph.now in
    let r = c.heights_by_walk.result in
    let h = c.heights_by_walk.ensures in
    record { found = found_of G r h; falls = falls_of G r h; acyclic = acyclic_of G r h; refused = refused_of G r h; only = only_of G r h }

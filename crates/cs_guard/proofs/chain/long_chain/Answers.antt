use Rattle.std.proofs.Common.{◌≡◌, ℕ, ◌<◌, map, length, get_or, sym, ◌∙◌, subst, arith}
use Rattle.std.proofs.lemmas.Simd.{map-map}
use Rattle.cs_package.specs.Environment.{written}
use Rattle.cs_graph.specs.Graph.{graph_of}
use Rattle.cs_graph.proofs.Places.{on_get}
use Rattle.cs_guard.specs.Descent.{IsDescent}
use Rattle.cs_guard.specs.Numbered.{name_of}
use Rattle.cs_guard.proofs.Heights.{package_too_deep}
use Rattle.cs_guard.proofs.Numbers.{guarded_not_deep}
use Rattle.cs_guard.proofs.chain.long_chain.Goals as goal

pub chain_from-requires-clause-within : goal.chain_from-requires-clause-within
chain_from-requires-clause-within c = c.requires.graph.within

pub names_of-requires : goal.names_of-requires
names_of-requires c =
    let G = graph_of c.args.graph.now.items in
    let chain = c.deref.result.now in
    let descent = subst (IsDescent G c.args.heights.now.items c.args.first) (sym c.deref.ensures.value) c.in_ok-chain.ensures in
    λ k d l. let inside = descent.inside (get_or chain k d) (on_get chain k d l) in omega (arith, inside, c.requires.graph.long)

pub returns-clause-refused : goal.returns-clause-refused
returns-clause-refused c =
    let E = c.args.package.now in
    let G = graph_of c.args.graph.now.items in
    let chain = c.deref.result.now in
    let descent = subst (IsDescent G c.args.heights.now.items c.args.first) (sym c.deref.ensures.value) c.in_ok-chain.ensures in (
      map (name_of E) chain,
      c.in_ok-names.ensures ∙ sym (map-map written (name_of E) chain),
      package_too_deep E G c.requires.graph c.requires.distinct c.args.heights.now.items c.requires.heights c.requires.acyclic c.args.first chain descent c.requires.long,
    )

pub returns-clause-unguarded : goal.returns-clause-unguarded
returns-clause-unguarded c = λ g. let refused = returns-clause-refused c in guarded_not_deep c.args.package.now refused.0 g refused.2

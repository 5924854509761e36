use Rattle.cs_graph.specs.Graph.{graph_of}
use Rattle.cs_guard.proofs.Heights.{ranks_of}
use Rattle.cs_guard.proofs.guarded.short_ranks.Goals as goal

pub returns-in-None-clause-ranks : goal.returns-in-None-clause-ranks
returns-in-None-clause-ranks c = ranks_of c.args.package.now (graph_of c.args.graph.now.items) c.requires.graph c.requires.distinct c.args.ranks.items c.requires.heights c.requires.acyclic c.in-None.ensures

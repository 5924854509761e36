use Rattle.std.proofs.Common.{map}
use Rattle.std.specs.List.{flat_map}
use Rattle.cs_grammar.specs.Tree.{definitions}
use Rattle.cs_grammar.specs.View.{file_view}
use Rattle.cs_resolve.proofs.refinement.bases_of.Goals as goal

pub returns : goal.returns
returns c = c.bases_among.ensures (flat_map definitions (map file_view c.args.files.now.items)) c.in_ok-bodies.ensures

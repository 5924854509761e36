use Rattle.std.proofs.Common.{◌≡◌, map, take}
use Rattle.cs_embeddings.specs.GatheredTable.{declared_view}
use Rattle.cs_embeddings.specs.Views.{brought_view}
use Rattle.cs_embeddings.proofs.gathered.declared_of.Given as goal

abbrev pub invariant-loop-brought : goal.invariant-loop-brought
invariant-loop-brought l = map declared_view l.all.items ≡ map brought_view (take l.brought-index l.declarations)

use Rattle.std.proofs.Common.{◌≡◌, [], map, take, drop}
use Rattle.cs_embeddings.specs.Clashes.{clashes_behind, held}
use Rattle.cs_embeddings.specs.ClashTable.{TellsSeen}
use Rattle.cs_embeddings.specs.Views.{brought_view}
use Rattle.cs_embeddings.proofs.clashes.first_clash.Given as goal

abbrev pub invariant-loop-brought : goal.invariant-loop-brought
invariant-loop-brought l = record {
  told : TellsSeen l.seen (held (map brought_view (take l.brought-index l.declarations)));
  behind : clashes_behind [] (held (map brought_view l.declarations))
      ≡ clashes_behind (held (map brought_view (take l.brought-index l.declarations))) (held (map brought_view (drop l.brought-index l.declarations)));
}

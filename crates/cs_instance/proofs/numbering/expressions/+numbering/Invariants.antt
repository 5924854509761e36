use Rattle.std.proofs.Common.{take}
use Rattle.cs_instance.specs.Placing.{PlacesAll, named_all}
use Rattle.cs_instance.proofs.numbering.expressions.+numbering.Given as goal

abbrev pub invariant-place_all-loop-shape : goal.invariant-place_all-loop-shape
invariant-place_all-loop-shape l = PlacesAll l.numbers l.initial.numberer l.numberer (named_all (take l.shape-index l.shapes)) l.parts.items

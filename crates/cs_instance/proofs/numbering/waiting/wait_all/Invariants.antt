use Rattle.std.proofs.Common.{take}
use Rattle.cs_instance.specs.Placing.{ElementsWait}
use Rattle.cs_instance.proofs.numbering.waiting.wait_all.Given as goal

abbrev pub invariant-loop-shape : goal.invariant-loop-shape
invariant-loop-shape l = ElementsWait (take l.shape-index l.shapes) l.initial.numberer l.numberer l.places.items

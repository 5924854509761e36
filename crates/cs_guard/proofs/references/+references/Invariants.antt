use Rattle.std.proofs.Common.{take}
use Rattle.cs_guard.proofs.Pushes.{PushedAll, PushedParts}
use Rattle.cs_guard.proofs.references.+references.Given as goal

abbrev pub invariant-push_all-loop-shape : goal.invariant-push_all-loop-shape
invariant-push_all-loop-shape l = PushedAll l.followed l.fn.numbers.items l.numbers.items (take l.shape-index l.shapes)

abbrev pub invariant-push_parts-loop-part : goal.invariant-push_parts-loop-part
invariant-push_parts-loop-part l = PushedParts l.followed l.fn.numbers.items l.numbers.items (take l.part-index l.parts)

use Rattle.std.proofs.Common.{take}
use Rattle.std.specs.List.{AllByRecursion}
use Rattle.cs_variants.specs.Sound.{IsSound, IsSoundPart}
use Rattle.cs_variants.proofs.variants.+sound.Given as goal

abbrev pub invariant-are_sound-loop-shape : goal.invariant-are_sound-loop-shape
invariant-are_sound-loop-shape l = AllByRecursion (IsSound l.count) (take l.shape-index l.shapes)

abbrev pub invariant-is_sound-loop-part : goal.invariant-is_sound-loop-part
invariant-is_sound-loop-part l = AllByRecursion (IsSoundPart l.count) (take l.part-index l.parts)

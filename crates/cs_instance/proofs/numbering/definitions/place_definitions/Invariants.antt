use Rattle.std.proofs.Common.{take}
use Rattle.cs_instance.specs.Ranked.{ArePlacedBy, names_in}
use Rattle.cs_instance.proofs.numbering.definitions.place_definitions.Given as goal

abbrev pub invariant-loop-definition : goal.invariant-loop-definition
invariant-loop-definition l = ArePlacedBy l.«package» (names_in l.«package» (take l.definition-index l.ranked)) l.placement

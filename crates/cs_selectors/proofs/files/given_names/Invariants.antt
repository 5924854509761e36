use Rattle.std.proofs.Common.{map, take}
use Rattle.cs_plain.specs.References.{TellsTexts}
use Rattle.cs_selectors.specs.Checks.{given_view}
use Rattle.cs_selectors.specs.Given.{given_names}
use Rattle.cs_selectors.proofs.files.given_names.Given as goal

abbrev pub invariant-loop-given : goal.invariant-loop-given
invariant-loop-given l = TellsTexts l.names (given_names (map given_view (take l.given-index l.order)))

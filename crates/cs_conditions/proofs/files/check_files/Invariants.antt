use Rattle.std.proofs.Common.{◌≡◌, drop}
use Rattle.cs_conditions.specs.Checks.{TellsKnown}
use Rattle.cs_conditions.specs.Faults.{flaws}
use Rattle.cs_conditions.specs.Known.{Knowledge}
use Rattle.cs_conditions.proofs.Found.{from}
use Rattle.cs_conditions.proofs.files.check_files.Given as goal

abbrev pub invariant-loop-file : goal.invariant-loop-file
invariant-loop-file l = (knowledge : Knowledge) → TellsKnown l.known knowledge → from (flaws knowledge) 0 l.files ≡ from (flaws knowledge) l.file (drop l.file l.files)

use Rattle.std.proofs.Common.{ℕ, Bool, List, take}
use Rattle.cs_grammar.specs.View.{fields_view}
use Rattle.cs_defaults.specs.Absent.{absent_labels}
use Rattle.cs_defaults.specs.Checks.{TellsHanding, TellsSeen}
use Rattle.cs_defaults.proofs.absent.Clashes.repeated.Given as goal

abbrev pub invariant-loop-field : goal.invariant-loop-field
invariant-loop-field l = (has : List ℕ → Bool) → TellsHanding l.self.handing.now has → TellsSeen l.seen l.repeated (absent_labels has (fields_view (take l.field-index l.fields)))

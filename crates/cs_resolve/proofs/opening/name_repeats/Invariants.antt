use Rattle.std.proofs.Common.{take}
use Rattle.cs_resolve.specs.Opening.{named_fields}
use Rattle.cs_resolve.specs.Checks.{Repeats, with_own_name}
use Rattle.cs_grammar.specs.View.{fields_view}
use Rattle.cs_resolve.proofs.opening.name_repeats.Given as goal

abbrev pub invariant-loop-field : goal.invariant-loop-field
invariant-loop-field l = Repeats l.repeats (with_own_name (named_fields (fields_view (take l.field-index l.field-items))))

use Rattle.std.proofs.Common.{take}
use Rattle.cs_resolve.specs.Opening.{every_key, named_fields}
use Rattle.cs_resolve.specs.Checks.{CountsAs, unplain}
use Rattle.cs_grammar.specs.View.{fields_view}
use Rattle.cs_resolve.proofs.opening.every_repeats.Given as goal

abbrev pub invariant-loop-field : goal.invariant-loop-field
invariant-loop-field l = CountsAs l.every (unplain every_key (named_fields (fields_view (take l.field-index l.field-items))))

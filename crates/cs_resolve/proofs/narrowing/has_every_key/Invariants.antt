use Rattle.std.proofs.Common.{◌≡◌, drop}
use Rattle.cs_grammar.specs.View.{fields_view}
use Rattle.cs_resolve.specs.Refinement as Refinement
use Rattle.cs_resolve.proofs.narrowing.has_every_key.Given as goal

abbrev pub invariant-loop-field : goal.invariant-loop-field
invariant-loop-field l = Refinement.has_every_key (fields_view l.field-items) ≡ Refinement.has_every_key (fields_view (drop l.field-index l.field-items))

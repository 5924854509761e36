use Rattle.std.proofs.Common.{◌≡◌, drop, map}
use Rattle.cs_grammar.specs.View.{file_view}
use Rattle.cs_selectors.specs.Having as Spec
use Rattle.cs_selectors.proofs.having.have_selectors.Given as goal

abbrev pub invariant-loop-file : goal.invariant-loop-file
invariant-loop-file l = Spec.have_selectors (map file_view l.files) ≡ Spec.have_selectors (map file_view (drop l.file-index l.files))

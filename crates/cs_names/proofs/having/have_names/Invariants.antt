use Rattle.std.proofs.Common.{◌≡◌, map, drop}
use Rattle.cs_grammar.specs.View.{file_view}
use Rattle.cs_names.specs.Having as Spec
use Rattle.cs_names.specs.Having.{has_name, some_has, fields_have, declarations_have}
use Rattle.cs_names.proofs.having.have_names.Given as goal

abbrev pub invariant-loop-file : goal.invariant-loop-file
invariant-loop-file l = Spec.have_names (map file_view l.files) ≡ Spec.have_names (map file_view (drop l.file-index l.files))

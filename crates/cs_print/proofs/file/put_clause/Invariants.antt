use Rattle.std.proofs.Common.{◌≡◌, drop, map, string_bytes}
use Rattle.cs_grammar.specs.View.{file_view}
use Rattle.cs_print.specs.Printed.{first_clause}
use Rattle.cs_print.proofs.file.put_clause.Given as goal

-- no file so far has a clause
abbrev pub invariant-loop-file : goal.invariant-loop-file
invariant-loop-file l = record {
  same : string_bytes l.out ≡ string_bytes l.initial.out;
  left : first_clause (map file_view (drop l.file-index l.files)) ≡ first_clause (map file_view l.files);
}

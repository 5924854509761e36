use Rattle.std.proofs.Common.{◌≡◌, ◌⊎◌, string_bytes}
use Rattle.cs_reason_words.specs.Valid.{EndsInLine}
use Rattle.cs_reason_words.proofs.form.put_lines.Given as goal

abbrev pub invariant-loop-entry : goal.invariant-loop-entry
invariant-loop-entry l = (l.entry-index ≡ 0) ⊎ EndsInLine (string_bytes l.text)

use Rattle.std.proofs.Common.{◌≡◌, take}
use Rattle.cs_compare.specs.Written.{lines_text}
use Rattle.cs_compare.proofs.documents.lines_of.Given as goal

abbrev pub invariant-loop-text : goal.invariant-loop-text
invariant-loop-text l = l.lines.items ≡ lines_text (take l.text-index l.texts)

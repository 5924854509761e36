use Rattle.std.proofs.Common.{◌+◌, ◌-◌, length, string_bytes}
use Rattle.cs_question.proofs.scalars.other_text.Given as goal

abbrev pub decreases-loop-text : goal.decreases-loop-text
decreases-loop-text l = (l.most + 1) - length (string_bytes l.text)

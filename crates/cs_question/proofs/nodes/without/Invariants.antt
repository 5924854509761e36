use Rattle.std.proofs.Common.{◌≡◌, Bool, true, take}
use Rattle.std.specs.List.{list_all}
use Rattle.cs_question.specs.declared.nodes.Literal.{Literal}
use Rattle.cs_question.proofs.nodes.without.Given as goal

abbrev pub invariant-loop-i : goal.invariant-loop-i
invariant-loop-i l = (p : Literal → Bool) → list_all p (take l.i l.asked) ≡ true → list_all p l.rest.items ≡ true

use Rattle.std.proofs.Common.{◌≡◌, ℕ, List, take, Bor}
use Rattle.cs_compile.specs.Grouped.{declarations_at, has_label, is_asked}
use Rattle.cs_compile.proofs.fields.asked_labels.Given as goal

abbrev pub invariant-loop-part : goal.invariant-loop-part
invariant-loop-part l = (ns : List (List ℕ)) (k : Bor (List ℕ)) → has_label l.asked k ≡ is_asked (declarations_at ns (take l.part-index l.parts)) k.now

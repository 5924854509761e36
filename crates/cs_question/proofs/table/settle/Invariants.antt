use Rattle.std.proofs.Common.{◌≡◌, ℕ, ◌<◌, Some}
use Rattle.std.specs.Prelude.{IsNone, slice_get}
use Rattle.cs_question.specs.declared.table.Entry.{Entry}
use Rattle.cs_question.specs.Truth.{NoDocument}
use Rattle.cs_question.proofs.table.settle.Given as goal

abbrev pub invariant-loop-entry : goal.invariant-loop-entry
invariant-loop-entry l = (i : ℕ) (e : Entry) → i < l.entry-index → slice_get l.table.entries.items i ≡ Some e → IsNone e.found → NoDocument l.nodes l.table e.asked.items

use Rattle.std.proofs.Common.{◌≡◌, ℕ, ◌++◌, map, drop, slice_index}
use Rattle.cs_document.specs.Document.{Entry}
use Rattle.cs_flat.specs.View.{entry_of}
use Rattle.cs_table.specs.Judged.{verdicts}
use Rattle.cs_rules.specs.Knowns.{value_count}
use Rattle.cs_instance_reasons.specs.CauseLists.{told_from, unless}
use Rattle.cs_instance.specs.Steps.{ValuesBelow}
use Rattle.cs_instance_reasons.specs.declared.cause.InstanceCause.TheVariants.{Member}
use Rattle.cs_instance_reasons.proofs.causes.members.tell_every.Given as goal

abbrev pub invariant-loop-member : goal.invariant-loop-member
invariant-loop-member l =
    let q = slice_index l.known.children.now l.part in
    let tell = λ (m : ℕ) (e : Entry ℕ). unless (verdicts l.known.done.now e.1 q) (Member l.declaration m e.1 q) in record {
      same : l.found.items ++ told_from tell l.member (map entry_of (drop l.member l.members)) ≡ l.fn.found.items ++ told_from tell 0 (map entry_of l.members);
      below : ValuesBelow (value_count l.known) (map entry_of (drop l.member l.members));
    }

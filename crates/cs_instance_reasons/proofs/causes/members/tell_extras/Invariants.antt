use Rattle.std.proofs.Common.{◌≡◌, ℕ, ◌++◌, map, drop}
use Rattle.std.specs.List.{list_any}
use Rattle.cs_document.specs.Document.{Entry}
use Rattle.cs_flat.specs.View.{entry_of}
use Rattle.cs_instance_reasons.specs.CauseLists.{told_from, unless}
use Rattle.cs_instance.specs.Constraint.{allows}
use Rattle.cs_instance.specs.Steps.{numbered_fields}
use Rattle.cs_instance_reasons.specs.declared.cause.InstanceCause.TheVariants.{Extra}
use Rattle.cs_instance_reasons.proofs.causes.members.tell_extras.Given as goal

abbrev pub invariant-loop-member : goal.invariant-loop-member
invariant-loop-member l =
    let ds = numbered_fields l.known.children.now l.fields.all.items in
    let tell = λ (m : ℕ) (e : Entry ℕ). unless (list_any (λ d. allows d e.0) ds) (Extra m l.known.item) in
    l.found.items ++ told_from tell l.member (map entry_of (drop l.member l.members)) ≡ l.fn.found.items ++ told_from tell 0 (map entry_of l.members)

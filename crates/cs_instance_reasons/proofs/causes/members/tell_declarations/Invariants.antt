use Rattle.std.proofs.Common.{◌≡◌, ◌++◌, map, drop}
use Rattle.cs_flat.specs.View.{entry_of}
use Rattle.cs_table.specs.Judged.{verdicts}
use Rattle.cs_rules.specs.Knowns.{verdict_here, place_count}
use Rattle.cs_instance_reasons.specs.CauseLists.{told_from, declaration_cause}
use Rattle.cs_instance.specs.Steps.{field_of, numbered_fields, PlacesBelow}
use Rattle.cs_instance_reasons.proofs.causes.members.tell_declarations.Given as goal

abbrev pub invariant-loop-declaration : goal.invariant-loop-declaration
invariant-loop-declaration l =
    let inner = l.known.children.now in
    let tell = declaration_cause (verdict_here l.known) (verdicts l.known.done.now) l.known.item l.number (map entry_of l.members) in record {
      same : l.found.items ++ told_from tell l.declaration (numbered_fields inner (drop l.declaration l.fields)) ≡ l.fn.found.items ++ told_from tell 0 (numbered_fields inner l.fields);
      below : PlacesBelow (place_count l.known) (map field_of (drop l.declaration l.fields));
    }

use Rattle.std.proofs.Common.{◌≡◌, ℕ, map, drop}
use Rattle.std.specs.List.{list_all, list_any}
use Rattle.cs_document.specs.Document.{Entry}
use Rattle.cs_flat.specs.View.{entry_of}
use Rattle.cs_instance.specs.Constraint.{allows}
use Rattle.cs_instance.specs.Steps.{field_of}
use Rattle.cs_instance.proofs.steps.are_allowed.Given as goal

abbrev pub invariant-loop-key : goal.invariant-loop-key
invariant-loop-key l =
    let allowed = λ (m : Entry ℕ). list_any (λ p. allows p m.0) (map field_of l.fields.all.items) in
    list_all allowed (map entry_of l.members) ≡ list_all allowed (map entry_of (drop l.key-index l.members))

use Rattle.std.proofs.Common.{ℕ, [], refl, sym, ap, ◌∙◌, map, get_or, slice_index}
use Rattle.std.specs.List.{list_any}
use Rattle.cs_document.specs.Document.{Entry}
use Rattle.cs_flat.specs.View.{entry_of}
use Rattle.cs_instance_reasons.specs.CauseLists.{unless}
use Rattle.cs_instance.specs.Constraint.{allows}
use Rattle.cs_instance.specs.Steps.{field_of, numbered_fields}
use Rattle.cs_instance_reasons.specs.declared.cause.InstanceCause.TheVariants.{Extra}
use Rattle.cs_instance_reasons.proofs.Labelled.{same_allowed}
use Rattle.cs_instance_reasons.proofs.Tellings.{told_none, told_one, unless_yes, unless_no}
use Rattle.cs_instance_reasons.proofs.causes.members.tell_extras.Goals as goal
use Rattle.cs_instance_reasons.proofs.causes.members.tell_extras.Goals.{then-not-allow+in_ok-push, else-not-allow}

pub loop-member-preserved : goal.loop-member-preserved
loop-member-preserved c =
    let known = c.args.known.now in
    let fields = c.args.fields.now.all.items in
    let ds = numbered_fields known.children.now fields in
    let place = c.loop-member.member in
    let members = c.args.members.now in
    let tell = λ (m : ℕ) (e : Entry ℕ). unless (list_any (λ d. allows d e.0) ds) (Extra m known.item) in
    let e = get_or members place (record { ref_ptr = (0, 0); now = [] }, 0) in
    let same = same_allowed (slice_index known.children.now) e.0.now (map field_of fields) in
    elim c.if-not-allow.branch [
      | then-not-allow+in_ok-push w ↦
          told_one (map entry_of) entry_of (λ y ys. refl) tell members place _ _ _ _ c.loop-member-test.true c.loop-member.invariant (Extra place known.item)
          (unless_no _ _ (same ∙ sym c.allow.ensures ∙ w.if-not-allow.true)) (ap (λ v. v.items) w.found-is ∙ w.in_ok-push.ensures.items)
      | else-not-allow w ↦
          told_none (map entry_of) entry_of (λ y ys. refl) tell members place _ _ _ _ c.loop-member-test.true c.loop-member.invariant
          (unless_yes _ _ (same ∙ sym c.allow.ensures ∙ w.if-not-allow.false)) (ap (λ v. v.items) w.found-is)
    ]

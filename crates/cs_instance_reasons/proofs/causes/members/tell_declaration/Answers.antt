use Rattle.std.proofs.Common.{◌≡◌, [], ◌++◌, sym, ap, ◌∙◌, subst, map, get_or, rules, option_map}
use Rattle.std.proofs.lemmas.List.{append-nil}
use Rattle.std.specs.Result.{OnOk}
use Rattle.std.proofs.lemmas.List.Sorted.{answers_always}
use Rattle.std.proofs.lemmas.Option.{slice_get-get_or, slice_get-map}
use Rattle.std.proofs.lemmas.Map.Text.{is_eq-slice_cmp}
use Rattle.std.proofs.lemmas.Slice.Eq.{bytes_eq-Decides}
use Rattle.std.specs.Ordering.{is_eq}
use Rattle.cs_flat.specs.View.{entry_of}
use Rattle.cs_flat.proofs.Lookups.{searchable, missed}
use Rattle.cs_rules.specs.Knowns.{verdict_here}
use Rattle.cs_table.specs.Judged.{verdicts}
use Rattle.cs_instance.specs.Steps.{numbered_field}
use Rattle.cs_instance_reasons.proofs.Labelled.{each_there, declaration_found, declaration_missed}
use Rattle.cs_instance_reasons.proofs.Tellings.{unless_yes, unless_no}
use Rattle.cs_instance_reasons.proofs.causes.members.tell_declaration.Goals as goal

pub tell_member-requires-clause-item : goal.tell_member-requires-clause-item
tell_member-requires-clause-item c =
    let members = c.args.members.now in
    let at = slice_get-get_or members c.in-Ok.member (record { ref_ptr = (0, 0); now = [] }, 0) c.in-Ok.ensures.bound in
    each_there _ (map entry_of members) c.in-Ok.member _ c.requires.members (slice_get-map entry_of members c.in-Ok.member ∙ ap (option_map entry_of) at)

pub returns-in-Ok : goal.returns-in-Ok
returns-in-Ok c =
    let known = c.args.known.now in
    let members = c.args.members.now in
    let d = numbered_field known.children.now c.args.field.now in
    let e = get_or members c.in-Ok.member (record { ref_ptr = (0, 0); now = [] }, 0) in
    let at = slice_get-get_or members c.in-Ok.member (record { ref_ptr = (0, 0); now = [] }, 0) c.in-Ok.ensures.bound in
    let equal = c.in-Ok.ensures.position (λ e. e.0) (answers_always _ _ _ (λ f a r g called. search rules)) _ in
    let key = (bytes_eq-Decides e.0.now d.label).0 (sym (is_eq-slice_cmp e.0.now d.label) ∙ ap is_eq equal) in
    let told = declaration_found (verdict_here known) (verdicts known.done.now) known.item c.args.number c.args.declaration d (map entry_of members) c.in-Ok.member (entry_of e) (sym c.is_for_every_key.ensures ∙ c.if-is_for_every_key.false) c.requires.ascends
    (slice_get-map entry_of members c.in-Ok.member ∙ ap (option_map entry_of) at) key in
    subst (λ cs. OnOk c.tell_member.result (c.tell_member.new.found.items ≡ c.args.found.now.items ++ cs)) (sym told) c.tell_member.ensures

pub returns-in-Err : goal.returns-in-Err
returns-in-Err c =
    let known = c.args.known.now in
    let members = c.args.members.now in
    let d = numbered_field known.children.now c.args.field.now in
    let parted = c.in-Err.ensures.position (λ e. e.0) (answers_always _ _ _ (λ f a r g called. search rules)) (searchable d.label members c.requires.ascends) in
    let none = sym (missed d.label members c.in-Err.field-0 parted.0 parted.1) in
    let told = declaration_missed (verdict_here known) (verdicts known.done.now) known.item c.args.number c.args.declaration d (map entry_of members) (sym c.is_for_every_key.ensures ∙ c.if-is_for_every_key.false) none in
    sym (ap (λ t. c.args.found.now.items ++ t) (told ∙ unless_yes _ _ (sym c.may_be_absent.ensures ∙ c.if-may_be_absent.true)) ∙ append-nil c.args.found.now.items)

pub returns-in_ok-push-in-Err-2 : goal.returns-in_ok-push-in-Err-2
returns-in_ok-push-in-Err-2 c =
    let known = c.args.known.now in
    let members = c.args.members.now in
    let d = numbered_field known.children.now c.args.field.now in
    let parted = c.in-Err-2.ensures.position (λ e. e.0) (answers_always _ _ _ (λ f a r g called. search rules)) (searchable d.label members c.requires.ascends) in
    let none = sym (missed d.label members c.in-Err-2.field-0 parted.0 parted.1) in
    let told = declaration_missed (verdict_here known) (verdicts known.done.now) known.item c.args.number c.args.declaration d (map entry_of members) (sym c.is_for_every_key.ensures ∙ c.if-is_for_every_key.false) none in
    c.in_ok-push-in-Err-2.ensures.items ∙ ap (λ t. c.args.found.now.items ++ t) (sym (told ∙ unless_no _ _ (sym c.may_be_absent.ensures ∙ c.if-may_be_absent.false)))

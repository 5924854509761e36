use Rattle.std.proofs.Common.{◌++◌, option_map, map, sym, ap, ◌∙◌}
use Rattle.std.specs.Prelude.{option_to_list}
use Rattle.cs_profile.specs.SchemaDocument.{schema_view, schemas_view}
use Rattle.cs_validate.specs.Placing.{waiting}
use Rattle.cs_validate.proofs.Slots.{inside_members_are}
use Rattle.cs_validate.proofs.Waits.{four_wait}
use Rattle.cs_validate.proofs.numbering.waiting.wait_inside.Goals as goal

pub returns-clause-waits : goal.returns-clause-waits
returns-clause-waits c =
    let k = c.args.keywords.now in
    let first = waiting c.args.pending.now.items in
    four_wait first _ _ _ _ (option_to_list (option_map schema_view k.additional)) (option_to_list (option_map schema_view k.rest)) (schemas_view k.prefix.items) (map (λ e. schema_view e.1) k.properties.entries)
    c.in_ok-wait_option.ensures c.in_ok-wait_option-2.ensures (c.in_ok-wait_all.ensures ∙ ap (λ ss. waiting c.wait_option-2.new.pending.items ++ schemas_view ss) c.deref.ensures.value) c.in_ok-wait_values.ensures
    ∙ ap (λ ss. first ++ ss) (sym (inside_members_are k))

use Rattle.std.specs.Prelude.{codes, map}
use Rattle.std.proofs.Common.{◌≡◌, ◌||◌, is_some, ap, ◌∙◌}
use Rattle.cs_profile.specs.SchemaDocument.{definitions_view, schemas_view, slots_of, present, set_slot, text_document, unless_no_list, unless_no_map}
use Rattle.cs_compile.specs.Slots.{typed}
use Rattle.cs_compile.specs.Translation.{closing}
use Rattle.cs_compile.proofs.fields.struct_keywords.Goals as goal

pub returns : goal.returns
returns c =
    let labels = unless_no_list (map text_document c.args.required.items) in
    let properties = unless_no_map (definitions_view c.args.properties.entries) in
    let every = unless_no_list (schemas_view c.args.every.items) in
    let others = closing (c.args.opened || is_some every) in
    let behind = set_slot (codes "allOf") every (set_slot (codes "properties") properties (set_slot (codes "required") labels (typed (codes "object")))) in
    let asked : slots_of c.set-3.result ≡ behind =
    c.set-3.ensures ∙ ap (set_slot (codes "allOf") every) (c.set-2.ensures ∙ ap (set_slot (codes "properties") properties) (c.set.ensures ∙ ap (set_slot (codes "required") labels) c.typed.ensures)) in
    ap present (c.set-4.ensures ∙ ap (λ o. set_slot (codes "additionalProperties") o (slots_of c.set-3.result)) c.closing-others.ensures ∙ ap (set_slot (codes "additionalProperties") others) asked)

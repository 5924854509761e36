use Rattle.std.proofs.Common.{map, ap, ap₂, ◌∙◌, string_bytes}
use Rattle.std.specs.Option.{option_map}
use Rattle.cs_grammar.specs.Tree.{file}
use Rattle.cs_grammar.specs.View.{definition_view, name_view}
use Rattle.cs_plain.specs.Placed.{placed_definition}
use Rattle.cs_plain.proofs.placed.Placing.placed_file.Goals as goal

pub returns : goal.returns
returns c value hides told =
    let f = c.args.file.now in
    let ds = c.in_ok-definitions.ensures value hides told ∙ ap (λ xs. map (placed_definition value hides) (map definition_view xs)) c.deref.ensures.value in
    let ns = c.in_ok-names.ensures ∙ ap (map name_view) c.deref-2.ensures.value in
    ap₂ (λ p xs. file p xs (map name_view c.in_ok-names.names.items)) c.in_ok-package.ensures ds
    ∙ ap (λ xs. file (option_map string_bytes f.«package») (map (placed_definition value hides) (map definition_view f.definitions.items)) xs) ns

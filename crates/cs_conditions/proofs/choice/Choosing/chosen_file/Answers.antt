use Rattle.std.proofs.Common.{rules, ◌≡◌, map, ap, ap₂, ◌∙◌, string_bytes}
use Rattle.std.specs.Option.{option_map}
use Rattle.cs_grammar.specs.Tree.{file}
use Rattle.cs_grammar.specs.View.{definition_view, name_view}
use Rattle.cs_conditions.specs.Chosen.{chosen_definition}
use Rattle.cs_conditions.proofs.choice.Choosing.chosen_file.Goals as goal
use Rattle.cs_conditions.proofs.choice.Choosing.chosen_file.Goals.{in-Some+in_ok-clone-in-Some, in-None}

pub returns : goal.returns
returns c known tells =
    let clause : option_map string_bytes c.match-file.«package» ≡ option_map string_bytes c.args.file.now.«package» = elim c.match-file.branch [
      | in-Some+in_ok-clone-in-Some w ↦ search rules
      | in-None w ↦ search rules
    ] in
    let bodies = c.in_ok-definitions.ensures known tells ∙ ap (λ xs. map (chosen_definition known) (map definition_view xs)) c.deref.ensures.value in
    let others = c.in_ok-names.ensures ∙ ap (map name_view) c.deref-2.ensures.value in
    ap₂ (λ p ds. file p ds (map name_view c.in_ok-names.names.items)) clause bodies
    ∙ ap (file (option_map string_bytes c.args.file.now.«package») (map (chosen_definition known) (map definition_view c.args.file.now.definitions.items))) others

use Rattle.std.proofs.Common.{◌≡◌, map, take}
use Rattle.cs_grammar.specs.Tree.{Declarations}
use Rattle.cs_grammar.specs.View.{expr_view, field_view, declaration_view}
use Rattle.cs_conditions.specs.Checks.{TellsKnown, TellsAsked, chosen_field_seen, chosen_seen}
use Rattle.cs_conditions.specs.Chosen as Spec
use Rattle.cs_conditions.specs.Known.{Knowledge}
use Rattle.cs_conditions.proofs.choice.Choosing.+choose.Given as goal

abbrev pub invariant-chosen_each-loop-expr : goal.invariant-chosen_each-loop-expr
invariant-chosen_each-loop-expr l = (known : Knowledge) → TellsKnown l.self.known.now known → map expr_view l.chosen.items ≡ map (λ e. Spec.chosen known (expr_view e)) (take l.expr-index l.exprs)

abbrev pub invariant-chosen_fields-loop-field : goal.invariant-chosen_fields-loop-field
invariant-chosen_fields-loop-field l = (known : Knowledge) → TellsKnown l.self.known.now known
    → map field_view l.chosen.items ≡ map (λ f. chosen_field_seen known (field_view f)) (take l.field-index l.fields)

abbrev pub invariant-chosen_declarations-loop-declaration : goal.invariant-chosen_declarations-loop-declaration
invariant-chosen_declarations-loop-declaration l = (known : Knowledge) (all : Declarations) → TellsKnown l.self.known.now known → TellsAsked l.table known all
    → map declaration_view l.chosen.items ≡ map (λ d. chosen_seen known all (declaration_view d)) (take l.declaration-index l.declarations)

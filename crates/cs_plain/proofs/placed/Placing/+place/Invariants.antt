use Rattle.std.proofs.Common.{◌≡◌, ℕ, Bool, List, Option, map, take}
use Rattle.cs_grammar.specs.Tree.{Tree}
use Rattle.cs_grammar.specs.View.{expr_view, field_view, declaration_view}
use Rattle.cs_plain.specs.Checks.{TellsPlacing, placed_field_seen, placed_seen}
use Rattle.cs_plain.specs.Placed as Spec
use Rattle.cs_plain.proofs.placed.Placing.+place.Given as goal

abbrev pub invariant-placed_each-loop-expr : goal.invariant-placed_each-loop-expr
invariant-placed_each-loop-expr l = (value : List ℕ → Option Tree) (hides : List ℕ → Bool) → TellsPlacing l.self value hides → map expr_view l.placed.items ≡ map (λ e. Spec.placed value hides l.standing (expr_view e)) (take l.expr-index l.exprs)

abbrev pub invariant-placed_fields-loop-field : goal.invariant-placed_fields-loop-field
invariant-placed_fields-loop-field l = (value : List ℕ → Option Tree) (hides : List ℕ → Bool) → TellsPlacing l.self value hides → map field_view l.placed.items ≡ map (λ f. placed_field_seen value hides l.standing (field_view f)) (take l.field-index l.fields)

abbrev pub invariant-placed_declarations-loop-declaration : goal.invariant-placed_declarations-loop-declaration
invariant-placed_declarations-loop-declaration l = (value : List ℕ → Option Tree) (hides : List ℕ → Bool) → TellsPlacing l.self value hides → map declaration_view l.placed.items ≡ map (λ d. placed_seen value hides l.standing (declaration_view d)) (take l.declaration-index l.declarations)

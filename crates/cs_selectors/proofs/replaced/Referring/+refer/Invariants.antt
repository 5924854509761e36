use Rattle.std.proofs.Common.{◌≡◌, ℕ, List, map, take}
use Rattle.cs_grammar.specs.Tree.{Selector}
use Rattle.cs_grammar.specs.View.{expr_view, field_view, declaration_view}
use Rattle.cs_plain.specs.Selecting as Spec
use Rattle.cs_selectors.specs.Checks.{TellsNames, referring_field_seen, referring_seen}
use Rattle.cs_selectors.proofs.replaced.Referring.+refer.Given as goal

abbrev pub invariant-referring_each-loop-expr : goal.invariant-referring_each-loop-expr
invariant-referring_each-loop-expr l = (by : List ℕ → List Selector → List ℕ) → TellsNames l.self.giving.now by → map expr_view l.referring.items ≡ map (λ e. Spec.referring by (expr_view e)) (take l.expr-index l.exprs)

abbrev pub invariant-referring_fields-loop-field : goal.invariant-referring_fields-loop-field
invariant-referring_fields-loop-field l = (by : List ℕ → List Selector → List ℕ) → TellsNames l.self.giving.now by → map field_view l.referring.items ≡ map (λ e. referring_field_seen by (field_view e)) (take l.field-index l.fields)

abbrev pub invariant-referring_declarations-loop-declaration : goal.invariant-referring_declarations-loop-declaration
invariant-referring_declarations-loop-declaration l = (by : List ℕ → List Selector → List ℕ) → TellsNames l.self.giving.now by → map declaration_view l.referring.items ≡ map (λ e. referring_seen by (declaration_view e)) (take l.declaration-index l.declarations)

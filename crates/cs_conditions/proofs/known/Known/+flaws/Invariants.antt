use Rattle.std.proofs.Common.{◌≡◌, drop}
use Rattle.cs_grammar.specs.Tree.{Declarations}
use Rattle.cs_grammar.specs.View.{exprs_view, fields_view, declarations_view}
use Rattle.cs_conditions.specs.Checks.{TellsKnown, TellsAsked}
use Rattle.cs_conditions.specs.Faults.{flaws_each, flaws_fields, flaws_declarations}
use Rattle.cs_conditions.specs.Known.{Knowledge}
use Rattle.cs_conditions.proofs.known.Known.+flaws.Given as goal

abbrev pub invariant-check_declarations-loop-declaration : goal.invariant-check_declarations-loop-declaration
invariant-check_declarations-loop-declaration l = (known : Knowledge) (all : Declarations) → TellsKnown l.self known → TellsAsked l.table known all
    → flaws_declarations known all (declarations_view l.declarations)
    ≡ flaws_declarations known all (declarations_view (drop l.declaration-index l.declarations))

abbrev pub invariant-check_each-loop-expr : goal.invariant-check_each-loop-expr
invariant-check_each-loop-expr l = (known : Knowledge) → TellsKnown l.self known
    → flaws_each known (exprs_view l.exprs) ≡ flaws_each known (exprs_view (drop l.expr-index l.exprs))

abbrev pub invariant-check_fields-loop-field : goal.invariant-check_fields-loop-field
invariant-check_fields-loop-field l = (known : Knowledge) → TellsKnown l.self known
    → flaws_fields known (fields_view l.fields) ≡ flaws_fields known (fields_view (drop l.field-index l.fields))

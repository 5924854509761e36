use Rattle.std.proofs.Common.{◌≡◌, List}
use Rattle.cs_grammar.specs.Tree.{Label}
use Rattle.cs_resolve.specs.Around.{HoldAround}
use Rattle.cs_resolve.specs.Narrowed.{TellsRefinements}
use Rattle.cs_resolve.specs.Refinement.{Refinements}
use Rattle.cs_resolve.specs.Steps.{known_names}
use Rattle.cs_resolve.proofs.Made.{AreMade, of_exprs, of_fields}
use Rattle.cs_resolve.proofs.shapes.Resolver.+shapes.Given as goal

abbrev pub invariant-parts_of-loop-field : goal.invariant-parts_of-loop-field
invariant-parts_of-loop-field l = record {
  kept : l.around.items ≡ l.initial.around.items;
  made : (scopes : List (List Label)) → HoldAround l.initial.around.items scopes → (rs : Refinements) → TellsRefinements l.self.bases.now rs → AreMade (of_fields rs l.self.file (known_names l.self) scopes) l.parts.items l.field-items l.field-index;
}

abbrev pub invariant-shapes_of-loop-expr : goal.invariant-shapes_of-loop-expr
invariant-shapes_of-loop-expr l = record {
  kept : l.around.items ≡ l.initial.around.items;
  made : (scopes : List (List Label)) → HoldAround l.initial.around.items scopes → (rs : Refinements) → TellsRefinements l.self.bases.now rs → AreMade (of_exprs rs l.self.file (known_names l.self) scopes) l.shapes.items l.expr-items l.expr-index;
}

-- Lists of expressions, fields and declarations with values in their places, one after another.
use Rattle.std.proofs.Common.{◌≡◌, ℕ, Bool, List, [], ◌∷◌, Option, map, refl, sym, ap, ◌∙◌}
use Rattle.std.proofs.lemmas.Simd.{map-map}
use Rattle.cs_grammar.specs.Tree.{Tree, more, field, declared, embedded, conditional}
use Rattle.cs_grammar.specs.View.{SeenDeclaration, field_seen, embedding_seen, conditional_seen, expr_view, exprs_view, trees_of, field_view, fields_view, fields_of, declaration_view, declarations_view, declarations_of}
use Rattle.cs_grammar.specs.declared.ast.Declaration.{Declaration}
use Rattle.cs_grammar.specs.declared.ast.Expr.{Expr}
use Rattle.cs_grammar.specs.declared.ast.Field.{Field}
use Rattle.cs_plain.specs.Checks.{placed_embedded, placed_field_seen, placed_seen}
use Rattle.cs_plain.specs.Placed.{placed, placed_each, placed_fields, placed_declarations}
use Rattle.cs_plain.specs.declared.standing.Standing.{Standing}

module _ (value : List ℕ → Option Tree) (hides : List ℕ → Bool) (p : Standing) where
  pub placed_trees : (es : List Expr) → trees_of (map (λ e. placed value hides p (expr_view e)) es) ≡ placed_each value hides p (exprs_view es)
  placed_trees [] = refl
  placed_trees (e ∷ es) = ap (more (placed value hides p (expr_view e))) (placed_trees es)

  pub placed_field_list : (fs : List Field) → fields_of (map (λ f. placed_field_seen value hides p (field_view f)) fs) ≡ placed_fields value hides p (fields_view fs)
  placed_field_list [] = refl
  placed_field_list (f ∷ fs) = ap (field (field_view f).label (field_view f).mark (placed value hides p (field_view f).value)) (placed_field_list fs)

  seen_cons : (d : SeenDeclaration) (cs ds : List SeenDeclaration) → declarations_of cs ≡ placed_declarations value hides p (declarations_of ds) → declarations_of (placed_seen value hides p d ∷ cs) ≡ placed_declarations value hides p (declarations_of (d ∷ ds))
  seen_cons (field_seen f) cs ds h = ap (declared f.label f.mark (placed value hides p f.value)) h
  seen_cons (embedding_seen o e) cs ds h = ap (embedded o (placed_embedded value hides p e)) h
  seen_cons (conditional_seen o qs e) cs ds h = ap (conditional o qs (placed_embedded value hides p e)) h

  seen_parts : (ds : List SeenDeclaration) → declarations_of (map (placed_seen value hides p) ds) ≡ placed_declarations value hides p (declarations_of ds)
  seen_parts [] = refl
  seen_parts (d ∷ ds) = seen_cons d (map (placed_seen value hides p) ds) ds (seen_parts ds)

  pub placed_parts : (ds : List Declaration) → declarations_of (map (λ d. placed_seen value hides p (declaration_view d)) ds) ≡ placed_declarations value hides p (declarations_view ds)
  placed_parts ds = ap declarations_of (sym (map-map (placed_seen value hides p) declaration_view ds)) ∙ seen_parts (map declaration_view ds)

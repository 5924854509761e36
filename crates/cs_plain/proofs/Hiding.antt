-- Which fields hide a kind, one after another.
use Rattle.std.proofs.Common.{◌≡◌, ℕ, Bool, ◌||◌, List, ◌∷◌, Option, map, refl}
use Rattle.cs_grammar.specs.Tree.{Tree}
use Rattle.cs_grammar.specs.View.{SeenDeclaration, field_seen, embedding_seen, conditional_seen, field_view, fields_view, declaration_view, declarations_view, declarations_of}
use Rattle.cs_grammar.specs.declared.ast.Declaration.{Declaration}
use Rattle.cs_grammar.specs.declared.ast.Field.{Field}
use Rattle.cs_plain.specs.Checks.{hides_seen}
use Rattle.cs_plain.specs.Placed.{hides_label, fields_hide, declarations_hide}

module _ (value : List ℕ → Option Tree) (hides : List ℕ → Bool) where
  pub field_hides_parts : (f : Field) (fs : List Field) → fields_hide value hides (fields_view (f ∷ fs)) ≡ (hides_label value hides (field_view f).label || fields_hide value hides (fields_view fs))
  field_hides_parts f fs = refl

  hides_seen_parts : (d : SeenDeclaration) (ds : List SeenDeclaration) → declarations_hide value hides (declarations_of (d ∷ ds)) ≡ (hides_seen value hides d || declarations_hide value hides (declarations_of ds))
  hides_seen_parts (field_seen f) ds = refl
  hides_seen_parts (embedding_seen o e) ds = refl
  hides_seen_parts (conditional_seen o cs e) ds = refl

  pub hides_parts : (d : Declaration) (ds : List Declaration) → declarations_hide value hides (declarations_view (d ∷ ds)) ≡ (hides_seen value hides (declaration_view d) || declarations_hide value hides (declarations_view ds))
  hides_parts d ds = hides_seen_parts (declaration_view d) (map declaration_view ds)

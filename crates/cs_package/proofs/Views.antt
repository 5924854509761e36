-- The expression of each form of shape, and whether its references are known.
use Rattle.std.proofs.Common.{◌≡◌, ℕ, Bool, ◌&&◌, nat_lt, List, [], map, get_or, Vec, Box, Global, string_bytes, rules, ap, ◌∙◌}
use Rattle.std.specs.List.{list_all}
use Rattle.std.proofs.lemmas.List.Folds.{list_all-map}
use Rattle.cs_package.specs.Expression as cue
use Rattle.cs_package.specs.View.{mark_of, expressions_of, declarations_of, expression_of, rest_of, part_of, is_known, is_known_end, is_known_part}
use Rattle.cs_package.specs.declared.shape.Shape as Shapes
use Rattle.cs_package.specs.declared.shape.Shape.{Shape}
use Rattle.cs_package.specs.declared.shape.Shape.TheOpen.{Part-F}
use Rattle.cs_package.specs.declared.shape.Shape.TheViews.{roll-Part}
use Rattle.cs_package.specs.declared.shape.ShapeEnd as Ends
use Rattle.cs_package.specs.declared.shape.ShapeEnd.{ShapeEnd}
use Rattle.cs_package.specs.declared.shape.Part.{Part}

module _ (ns : List (List ℕ)) where
  pub of-Definition : (i : ℕ) → expression_of ns (Shapes.Definition i) ≡ cue.reference (get_or ns i [])
  of-Definition i = search (rules, Shapes.the_lemmas)

  pub of-And : (v : Vec Shape Global) → expression_of ns (Shapes.And v) ≡ cue.conjunction (expressions_of (map (expression_of ns) v.items))
  of-And v = search (rules, Shapes.the_lemmas)

  pub of-Or : (v : Vec Shape Global) → expression_of ns (Shapes.Or v) ≡ cue.disjunction (expressions_of (map (expression_of ns) v.items))
  of-Or v = search (rules, Shapes.the_lemmas)

  pub of-Struct : (v : Vec Part Global) (o : Bool) → expression_of ns (Shapes.Struct v o) ≡ cue.struct (declarations_of (map (part_of ns) v.items)) o
  of-Struct v o = search (rules, Shapes.the_lemmas)

  pub of-List : (v : Vec Shape Global) (e : ShapeEnd) → expression_of ns (Shapes.List v e) ≡ cue.list (expressions_of (map (expression_of ns) v.items)) (rest_of ns e)
  of-List v e = search (rules, Shapes.the_lemmas)

  pub of-Each : (b : Box Shape Global) → rest_of ns (Ends.Each b) ≡ cue.each (expression_of ns b.value)
  of-Each b = search (rules, Shapes.the_lemmas)

  pub of-Part : (p : Part-F Shape ShapeEnd Part) → part_of ns (roll-Part p) ≡ record { label = string_bytes p.label; mark = mark_of p.mark; value = expression_of ns p.value }
  of-Part p = search (rules, Shapes.the_lemmas)

module _ (n : ℕ) where
  pub known-Definition : (i : ℕ) → is_known n (Shapes.Definition i) ≡ nat_lt i n
  known-Definition i = search (rules, Shapes.the_lemmas)

  known-And-mapped : (v : Vec Shape Global) → is_known n (Shapes.And v) ≡ list_all (λ b. b) (map (is_known n) v.items)
  known-And-mapped v = search (rules, Shapes.the_lemmas)

  pub known-And : (v : Vec Shape Global) → is_known n (Shapes.And v) ≡ list_all (is_known n) v.items
  known-And v = known-And-mapped v ∙ list_all-map (λ b. b) (is_known n) v.items

  known-Or-mapped : (v : Vec Shape Global) → is_known n (Shapes.Or v) ≡ list_all (λ b. b) (map (is_known n) v.items)
  known-Or-mapped v = search (rules, Shapes.the_lemmas)

  pub known-Or : (v : Vec Shape Global) → is_known n (Shapes.Or v) ≡ list_all (is_known n) v.items
  known-Or v = known-Or-mapped v ∙ list_all-map (λ b. b) (is_known n) v.items

  known-Struct-mapped : (v : Vec Part Global) (o : Bool) → is_known n (Shapes.Struct v o) ≡ list_all (λ b. b) (map (is_known_part n) v.items)
  known-Struct-mapped v o = search (rules, Shapes.the_lemmas)

  pub known-Struct : (v : Vec Part Global) (o : Bool) → is_known n (Shapes.Struct v o) ≡ list_all (is_known_part n) v.items
  known-Struct v o = known-Struct-mapped v o ∙ list_all-map (λ b. b) (is_known_part n) v.items

  known-List-mapped : (v : Vec Shape Global) (e : ShapeEnd) → is_known n (Shapes.List v e) ≡ (list_all (λ b. b) (map (is_known n) v.items) && is_known_end n e)
  known-List-mapped v e = search (rules, Shapes.the_lemmas)

  pub known-List : (v : Vec Shape Global) (e : ShapeEnd) → is_known n (Shapes.List v e) ≡ (list_all (is_known n) v.items && is_known_end n e)
  known-List v e = known-List-mapped v e ∙ ap (λ b. b && is_known_end n e) (list_all-map (λ b. b) (is_known n) v.items)

  pub known-Each : (b : Box Shape Global) → is_known_end n (Ends.Each b) ≡ is_known n b.value
  known-Each b = search (rules, Shapes.the_lemmas)

  pub known-Part : (p : Part-F Shape ShapeEnd Part) → is_known_part n (roll-Part p) ≡ is_known n p.value
  known-Part p = search (rules, Shapes.the_lemmas)

-- Shapes: what no other crate has a lemma for.
use Rattle.std.proofs.Common.{◌≡◌, ℕ, Bool, true, List, [], ◌∷◌, string_bytes, refl, subst, rules}
use Rattle.cs_package.specs.Expression as cue
use Rattle.cs_package.specs.Expression.{Expression}
use Rattle.cs_package.specs.Inside as inside
use Rattle.cs_package.specs.Inside.{is_simple}
use Rattle.cs_package.specs.Environment.{Environment}
use Rattle.cs_package.specs.View.{mark_of, expression_of, part_of}
use Rattle.cs_package.specs.declared.shape.Shape.{the_lemmas}
use Rattle.cs_package.specs.declared.shape.Part.{Part}
use Rattle.cs_package.specs.declared.inside.Simple.{Simple}
use Rattle.cs_package.proofs.Simples.{simple_is, same_simple}
use Rattle.cs_instance.specs.Constraint.{Outline, simple}
use Rattle.cs_instance.specs.Instance.{node, constraint_of}
use Rattle.cs_instance.specs.Placing.{placed_by, left_by}
use Rattle.cs_instance.specs.Steps.{test_of}

module _ (names : List (List ℕ)) where
  pub label_is : (p : Part) → (part_of names p).label ≡ string_bytes p.label
  label_is p = search (rules, the_lemmas)

  pub mark_is : (p : Part) → (part_of names p).mark ≡ mark_of p.mark
  mark_is p = search (rules, the_lemmas)

  pub value_is : (p : Part) → (part_of names p).value ≡ expression_of names p.value
  value_is p = search (rules, the_lemmas)

-- ---- a shape that looks at no part, however the definitions are named

-- all that the expression asks is this test
abbrev pub IsSimple : (Outline → Bool) → Expression → Type 0
IsSimple p e = (placed_by e ≡ node e ∷ []) × (left_by e ≡ []) × ((E : Environment) → constraint_of E (node e) ≡ simple p)

simple_asks : (e : Expression) → is_simple e ≡ true → IsSimple (test_of e) e
simple_asks (cue.atom a) h = (refl, refl, λ E. refl)
simple_asks (cue.kind k) h = (refl, refl, λ E. refl)
simple_asks (cue.range least greatest) h = (refl, refl, λ E. refl)
simple_asks _ h = cc

-- what one without parts is, where definitions have these names and where they have others
pub simple_asked : (s : Simple) (e f : Expression) → inside.IsSimple s e → inside.IsSimple s f → IsSimple (test_of e) f
simple_asked s e f h k = subst (IsSimple (test_of e)) (same_simple s e f h k) (simple_asks e (simple_is s e h))

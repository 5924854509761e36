-- A guarded environment has one instance relation.
use Rattle.std.proofs.Common.{◌≡◌, ℕ, Bool, true, List, map}
use Rattle.std.specs.List.{AllByRecursion as Each}
use Rattle.cs_document.specs.Document.{Document}
use Rattle.cs_document.specs.Opened.{opened}
use Rattle.cs_document.proofs.Each.{each_map, each_under}
use Rattle.cs_document.proofs.Children.{children, each_within}
use Rattle.cs_document.proofs.OneMeaning.{some, only, steps, is_known, known}
use Rattle.cs_package.specs.Environment.{Environment}
use Rattle.cs_guard.specs.Guarded.{IsGuarded}
use Rattle.cs_instance.specs.Constraint.{is_satisfied}
use Rattle.cs_instance.specs.Instance.{Rule, node, constraint_of, IsInstance, OneMeaning}
use Rattle.cs_instance.proofs.Parts.{here_parts, inner_parts, satisfied_same}
use Rattle.cs_instance.proofs.Induction.{guarded-induction}

module _ (E : Environment) where
  abbrev step : (Rule → Document → Bool) → Rule → Document → Bool
  step I r x = is_satisfied (λ part. I part x) (λ y e. I (node e) y) (constraint_of E r) (opened x)

  abbrev direct_rules : Rule → List Rule
  direct_rules r = here_parts (constraint_of E r)

  abbrev inner_rules : Rule → List Rule
  inner_rules r = map node (inner_parts (constraint_of E r))

  step_local : (f g : Rule → Document → Bool) (r : Rule) (x : Document) → Each (λ p. f p x ≡ g p x) (direct_rules r) → Each (λ y. Each (λ p. f p y ≡ g p y) (inner_rules r)) (children x) → step f r x ≡ step g r x
  step_local f g r x here inside =
      satisfied_same (λ p. f p x) (λ p. g p x) (λ y e. f (node e) y) (λ y e. g (node e) y) (constraint_of E r) (opened x) here
      (each_within _ x (each_map _ _ (λ y. each_under node (λ p. f p y ≡ g p y) (inner_parts (constraint_of E r))) (children x) inside))

  pub one_meaning : IsGuarded E → OneMeaning E
  one_meaning g = record {
    some = some Rule step direct_rules inner_rules step_local (guarded-induction E g);
    only = only Rule step direct_rules inner_rules step_local (guarded-induction E g);
  }

-- what so many steps give, where they look at every part that counts
abbrev pub is_settled : Environment → ℕ → Rule → Document → Bool
is_settled E k r x = is_known Rule (step E) (direct_rules E) (inner_rules E) k r x

abbrev pub value_after : Environment → ℕ → Rule → Document → Bool
value_after E k r x = steps Rule (step E) (direct_rules E) (inner_rules E) k r x

pub computed : (E : Environment) (I : Rule → Document → Bool) → IsInstance E I → (k : ℕ) (r : Rule) (x : Document) → is_settled E k r x ≡ true → I r x ≡ value_after E k r x
computed E I h k r x e = known Rule (step E) (direct_rules E) (inner_rules E) (step_local E) I h k r x e

-- One expression more is numbered.
use Rattle.std.proofs.Common.{◌≡◌, ℕ, ◌<◌, ◌≤◌, List, [], ◌∷◌, ◌++◌, length, sym, ap, ap₂, ◌∙◌, subst, append_assoc, append-nil, length-append, lt_of_lt_of_le, arith}
use Rattle.std.specs.List.{AllByRecursion as Each}
use Rattle.std.proofs.lemmas.List.{map-append}
use Rattle.cs_document.proofs.Each.{each_map, each_front, each_back}
use Rattle.cs_package.specs.Expression.{Expression, operands}
use Rattle.cs_package.specs.View.{expressions_of}
use Rattle.cs_package.specs.declared.shape.Shape.{Shape}
use Rattle.cs_guard.specs.References.{direct, direct_all}
use Rattle.cs_rules.specs.declared.numberer.Numberer.{Numberer}
use Rattle.cs_instance.specs.Instance.{Rule, node}
use Rattle.cs_instance.specs.Numbering.{rule_at}
use Rattle.cs_instance.specs.declared.rules.Rule.{Rule as Coded}
use Rattle.cs_instance.specs.Placing.{waiting, AreNumberedBy, AreAt, placed_by, placed_by_all, left_by, left_by_all, IsKnown, Places, PlacesAll}
use Rattle.cs_instance.proofs.Placed.{known_more, operands_of, rules_kept}
use Rattle.cs_rules.proofs.Lists.{each_push}

placed_push : (es : List Expression) (e : Expression) → placed_by_all (expressions_of (es ++ e ∷ [])) ≡ placed_by_all (expressions_of es) ++ placed_by e
placed_push [] e = append-nil (placed_by e)
placed_push (x ∷ es) e = ap (λ r. placed_by x ++ r) (placed_push es e) ∙ sym (append_assoc (placed_by x) (placed_by_all (expressions_of es)) (placed_by e))

left_push : (es : List Expression) (e : Expression) → left_by_all (expressions_of (es ++ e ∷ [])) ≡ left_by_all (expressions_of es) ++ left_by e
left_push [] e = append-nil (left_by e)
left_push (x ∷ es) e = ap (λ r. left_by x ++ r) (left_push es e) ∙ sym (append_assoc (left_by x) (left_by_all (expressions_of es)) (left_by e))

direct_push : (es : List Expression) (e : Expression) → direct_all (expressions_of (es ++ e ∷ [])) ≡ direct_all (expressions_of es) ++ direct e
direct_push [] e = append-nil (direct e)
direct_push (x ∷ es) e = ap (λ r. direct x ++ r) (direct_push es e) ∙ sym (append_assoc (direct x) (direct_all (expressions_of es)) (direct e))

operands_push : (es : List Expression) (e : Expression) → operands (expressions_of (es ++ e ∷ [])) ≡ operands (expressions_of es) ++ e ∷ []
operands_push es e = operands_of (es ++ e ∷ []) ∙ ap (λ xs. xs ++ e ∷ []) (sym (operands_of es))

-- numbers of expressions, and one more
pub at_push : (s t : List Rule) (parts : List ℕ) (k : ℕ) (es : List Expression) (e : Expression) → AreAt s parts es → AreAt (s ++ t) (k ∷ []) (e ∷ []) → AreAt (s ++ t) (parts ++ k ∷ []) (es ++ e ∷ [])
at_push s t parts k es e all one =
    let longer : length s ≤ length (s ++ t) = omega (arith, length-append s t) in (
      map-append (rule_at (s ++ t)) parts (k ∷ []) ∙ ap₂ ◌++◌ (rules_kept s t parts all.1 ∙ all.0) one.0 ∙ sym (map-append node es (e ∷ [])),
      each_push (λ d. d < length (s ++ t)) parts k (each_map (λ d. d < length s) (λ d. d < length (s ++ t)) (λ d l. lt_of_lt_of_le l longer) parts all.1) one.1.0,
    )

pub place_push : (numbers : List ℕ) (n0 n1 n2 : Numberer Shape Coded) (es : List (List ℕ) → List Expression) (e : List (List ℕ) → Expression) (parts : List ℕ) (k : ℕ)
    → PlacesAll numbers n0 n1 (λ names. expressions_of (es names)) parts → Places numbers n1 n2 e k
    → PlacesAll numbers n0 n2 (λ names. expressions_of (es names ++ e names ∷ [])) (parts ++ k ∷ [])
place_push numbers n0 n1 n2 es e parts k all one = λ names. (
  (one names).0 ∙ ap (λ xs. xs ++ left_by (e names)) (all names).0 ∙ append_assoc (waiting names n0) (left_by_all (expressions_of (es names))) (left_by (e names))
      ∙ ap (λ xs. waiting names n0 ++ xs) (sym (left_push (es names) (e names))),
  λ E placed n refs.
      let xs = expressions_of (es names) in
      let Q = IsKnown names numbers placed in
      let split : Each Q (direct_all xs ++ direct (e names)) = subst (Each Q) (direct_push (es names) (e names)) refs in
      let so_far = (all names).1 E placed n (each_front Q (direct_all xs) (direct (e names)) split) in
      let s = placed ++ placed_by_all xs in
      let t = placed_by (e names) in
      let known = each_map Q (IsKnown names numbers s) (known_more names numbers placed (placed_by_all xs)) (direct (e names)) (each_back Q (direct_all xs) (direct (e names)) split) in
      let next = (one names).1 E s so_far.0 known in
      let whole : s ++ t ≡ placed ++ placed_by_all (expressions_of (es names ++ e names ∷ [])) = append_assoc placed (placed_by_all xs) t ∙ ap (λ ss. placed ++ ss) (sym (placed_push (es names) (e names))) in
      let at = subst (AreAt (s ++ t) (parts ++ k ∷ [])) (sym (operands_push (es names) (e names))) (at_push s t parts k (operands xs) (e names) so_far.1 next.1) in (
        subst (λ ss. AreNumberedBy E names ss n2) whole next.0,
        subst (λ ss. AreAt ss (parts ++ k ∷ []) (operands (expressions_of (es names ++ e names ∷ [])))) whole at,
      ),
)

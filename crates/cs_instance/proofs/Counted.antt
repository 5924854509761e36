-- What is numbered and what waits are, together, the rules that there are to be.
use Rattle.std.proofs.Common.{◌≡◌, ℕ, ◌⊎◌, inl, inr, List, [], ◌∷◌, ◌++◌, map, refl, sym, ap, ap₂, ◌∙◌, subst, append_assoc, append-nil}
use Rattle.std.specs.List.{flat_map}
use Rattle.std.specs.Option.{unwrap_or}
use Rattle.std.proofs.lemmas.List.{map-append}
use Rattle.std.proofs.lemmas.Grind.{flat_map-append}
use Rattle.std.proofs.lemmas.List.Sorted.{IsPermutation-refl, IsPermutation-append, IsPermutation-append_comm, IsPermutation-append_left, IsPermutation-append_right}
use Rattle.cs_rules.proofs.Permutations.{Same, equal, joined, exchange, to_front, parted}
use Rattle.cs_graph.specs.Chains.{On, Distinct}
use Rattle.cs_package.specs.Expression as cue
use Rattle.cs_package.specs.Expression.{Expression, Expressions, Declarations, operands, declarations}
use Rattle.cs_package.specs.Environment.{Environment, bodies}
use Rattle.cs_package.specs.View.{expressions_of}
use Rattle.cs_instance.specs.Instance.{Rule, definition, node}
use Rattle.cs_instance.specs.Rules.{subexpressions, subexpressions_all, subexpressions_fields, subexpressions_rest, rules_of_one, rules_of}
use Rattle.cs_instance.specs.Placing.{placed_by, placed_by_all, left_by, left_by_all, values_of, each_of, bodies_of, placed_with, left_with, rules_in}

-- ---- an expression

pub in_append : (xs ys : List Expression) → rules_in (xs ++ ys) ≡ rules_in xs ++ rules_in ys
in_append xs ys = ap (map node) (flat_map-append subexpressions xs ys) ∙ map-append node (flat_map subexpressions xs) (flat_map subexpressions ys)

fields_are : (ds : Declarations) → flat_map subexpressions (values_of (declarations ds)) ≡ subexpressions_fields ds
fields_are cue.no_declarations = refl
fields_are (cue.declaration l m e ds) = ap (λ xs. subexpressions e ++ xs) (fields_are ds)

operands_are : (es : Expressions) → flat_map subexpressions (operands es) ≡ subexpressions_all es
operands_are cue.no_expressions = refl
operands_are (cue.expression e es) = ap (λ xs. subexpressions e ++ xs) (operands_are es)

rest_is : (r : cue.Rest) → flat_map subexpressions (each_of r) ≡ subexpressions_rest r
rest_is cue.closed = refl
rest_is cue.any = refl
rest_is (cue.each e) = append-nil (subexpressions e)

mutual
  pub whole : (e : Expression) → Same (placed_by e ++ rules_in (left_by e)) (map node (subexpressions e))
  whole (cue.atom a) = IsPermutation-refl _
  whole (cue.kind k) = IsPermutation-refl _
  whole (cue.range l g) = IsPermutation-refl _
  whole (cue.reference n) = IsPermutation-refl _
  whole (cue.conjunction es) = to_front (node (cue.conjunction es)) (placed_by_all es) (rules_in (left_by_all es)) (map node (subexpressions_all es)) (whole_all es)
  whole (cue.disjunction es) = to_front (node (cue.disjunction es)) (placed_by_all es) (rules_in (left_by_all es)) (map node (subexpressions_all es)) (whole_all es)
  whole (cue.struct ds o) = equal _ _ (ap (λ xs. node (cue.struct ds o) ∷ map node xs) (fields_are ds))
  whole (cue.list es r) = equal _ _ (ap (λ xs. node (cue.list es r) ∷ map node xs) (flat_map-append subexpressions (operands es) (each_of r) ∙ ap₂ ◌++◌ (operands_are es) (rest_is r)))

  pub whole_all : (es : Expressions) → Same (placed_by_all es ++ rules_in (left_by_all es)) (map node (subexpressions_all es))
  whole_all cue.no_expressions = IsPermutation-refl _
  whole_all (cue.expression e es) =
      let one = equal ((placed_by e ++ placed_by_all es) ++ rules_in (left_by e ++ left_by_all es)) ((placed_by e ++ placed_by_all es) ++ (rules_in (left_by e) ++ rules_in (left_by_all es))) (ap (λ xs. (placed_by e ++ placed_by_all es) ++ xs) (in_append (left_by e) (left_by_all es))) in
      let two = exchange (placed_by e) (placed_by_all es) (rules_in (left_by e)) (rules_in (left_by_all es)) in
      let three = IsPermutation-append (placed_by e ++ rules_in (left_by e)) (map node (subexpressions e)) (placed_by_all es ++ rules_in (left_by_all es)) (map node (subexpressions_all es)) (whole e) (whole_all es) in
      let four = equal (map node (subexpressions e) ++ map node (subexpressions_all es)) (map node (subexpressions e ++ subexpressions_all es)) (sym (map-append node (subexpressions e) (subexpressions_all es))) in
      joined one (joined two (joined three four))

-- ---- definitions

all_of_list : (es : List Expression) → subexpressions_all (expressions_of es) ≡ flat_map subexpressions es
all_of_list [] = refl
all_of_list (e ∷ es) = ap (λ xs. subexpressions e ++ xs) (all_of_list es)

pub whole_one : (E : Environment) (n : List ℕ) → Same (placed_with E n ++ rules_in (left_with E n)) (rules_of_one E n)
whole_one E n =
    let bs = unwrap_or (bodies E n) [] in
    joined (to_front (definition n) (placed_by_all (bodies_of E n)) (rules_in (left_with E n)) (map node (subexpressions_all (bodies_of E n))) (whole_all (bodies_of E n)))
    (equal _ _ (ap (λ xs. definition n ∷ map node xs) (all_of_list bs)))

pub whole_of : (E : Environment) (ns : List (List ℕ)) → Same (flat_map (placed_with E) ns ++ rules_in (flat_map (left_with E) ns)) (rules_of E ns)
whole_of E [] = IsPermutation-refl _
whole_of E (n ∷ ns) =
    let P = placed_with E n in
    let Ps = flat_map (placed_with E) ns in
    let L = left_with E n in
    let Ls = flat_map (left_with E) ns in
    let one = equal ((P ++ Ps) ++ rules_in (L ++ Ls)) ((P ++ Ps) ++ (rules_in L ++ rules_in Ls)) (ap (λ xs. (P ++ Ps) ++ xs) (in_append L Ls)) in
    let two = exchange P Ps (rules_in L) (rules_in Ls) in
    joined one (joined two (IsPermutation-append (P ++ rules_in L) (rules_of_one E n) (Ps ++ rules_in Ls) (rules_of E ns) (whole_one E n) (whole_of E ns)))

-- an expression that waited gets its number
pub whole_step : (placed : List Rule) (e : Expression) (rest : List Expression) → Same (placed ++ rules_in (e ∷ rest)) ((placed ++ placed_by e) ++ rules_in (rest ++ left_by e))
whole_step placed e rest =
    joined (equal _ _ (ap (λ xs. placed ++ xs) (map-append node (subexpressions e) (flat_map subexpressions rest))))
    (joined (parted placed (map node (subexpressions e)) (placed_by e) (rules_in (left_by e)) (rules_in rest) (whole e)) (equal _ _ (ap (λ xs. (placed ++ placed_by e) ++ xs) (sym (in_append rest (left_by e))))))

-- ---- lists with the same members

record Split {X : Type 0} (x : X) (ys : List X) : Type 0 where
  front : List X
  back : List X
  is : ys ≡ front ++ x ∷ back

split : {X : Type 0} (x : X) (ys : List X) → On x ys → Split x ys
split x [] o = absurd o
split x (y ∷ ys) (inl e) = record { front = []; back = ys; is = ap (λ z. z ∷ ys) (sym e) }
split x (y ∷ ys) (inr o) = let s = split x ys o in record { front = y ∷ s.front; back = s.back; is = ap (λ zs. y ∷ zs) s.is }

module _ {X : Type 0} (x : X) where
  kept : (z : X) (a b : List X) → On z (a ++ b) → On z (a ++ x ∷ b)
  kept z [] b o = inr o
  kept z (y ∷ a) b (inl e) = inl e
  kept z (y ∷ a) b (inr o) = inr (kept z a b o)

  here_or : (z : X) (a b : List X) → On z (a ++ x ∷ b) → (z ≡ x) ⊎ On z (a ++ b)
  here_or z [] b (inl e) = inl e
  here_or z [] b (inr o) = inr o
  here_or z (y ∷ a) b (inl e) = inr (inl e)
  here_or z (y ∷ a) b (inr o) = by (here_or z a b o)
    where
      by : (z ≡ x) ⊎ On z (a ++ b) → (z ≡ x) ⊎ On z (y ∷ (a ++ b))
      by (inl e) = inl e
      by (inr p) = inr (inr p)

  on_middle : (a b : List X) → On x (a ++ x ∷ b)
  on_middle [] b = inl refl
  on_middle (y ∷ a) b = inr (on_middle a b)

  without : (a b : List X) → Distinct (a ++ x ∷ b) → Distinct (a ++ b) × (On x (a ++ b) → ⊥)
  without [] b d = (d.1, d.0)
  without (y ∷ a) b d =
      let rest = without a b d.1 in (
        (λ o. d.0 (kept y a b o), rest.0),
        λ o. by o rest.1,
      )
    where
      by : On x (y ∷ (a ++ b)) → (On x (a ++ b) → ⊥) → ⊥
      by (inl e) h = d.0 (subst (λ z. On z (a ++ x ∷ b)) e (on_middle a b))
      by (inr o) h = h o

pub gathered : {X Y : Type 0} (f : X → List Y) (xs ys : List X) → Distinct xs → Distinct ys → ((x : X) → On x xs → On x ys) → ((x : X) → On x ys → On x xs) → Same (flat_map f xs) (flat_map f ys)
gathered f [] [] dx dy there back = IsPermutation-refl []
gathered f [] (y ∷ ys) dx dy there back = absurd (back y (inl refl))
gathered {X} f (x ∷ xs) ys dx dy there back =
    let s = split x ys (there x (inl refl)) in
    let a = s.front in
    let b = s.back in
    let w = without x a b (subst Distinct s.is dy) in
    let next = gathered f xs (a ++ b) dx.1 w.0 (λ z o. into z o (here_or x z a b (subst (On z) s.is (there z (inr o))))) (λ z o. out (a ++ b) z o w.1 (back z (subst (On z) (sym s.is) (kept x z a b o)))) in
    let one = IsPermutation-append_right (f x) (flat_map f xs) (flat_map f (a ++ b)) next in
    let two = equal (f x ++ flat_map f (a ++ b)) ((f x ++ flat_map f a) ++ flat_map f b) (ap (λ zs. f x ++ zs) (flat_map-append f a b) ∙ sym (append_assoc (f x) (flat_map f a) (flat_map f b))) in
    let three = IsPermutation-append_left (flat_map f b) (f x ++ flat_map f a) (flat_map f a ++ f x) (IsPermutation-append_comm (f x) (flat_map f a)) in
    let four = equal ((flat_map f a ++ f x) ++ flat_map f b) (flat_map f ys) (append_assoc (flat_map f a) (f x) (flat_map f b) ∙ sym (flat_map-append f a (x ∷ b)) ∙ ap (flat_map f) (sym s.is)) in
    joined one (joined two (joined three four))
  where
    into : {B : Type 0} (z : X) → On z xs → (z ≡ x) ⊎ B → B
    into z o (inl e) = absurd (dx.0 (subst (λ y. On y xs) e o))
    into z o (inr p) = p

    out : (zs : List X) (z : X) → On z zs → (On x zs → ⊥) → (z ≡ x) ⊎ On z xs → On z xs
    out zs z o none (inl e) = absurd (none (subst (λ y. On y zs) e o))
    out zs z o none (inr p) = p

-- Induction on a document, then on direct references, then on an expression.
use Rattle.std.proofs.Common.{◌≡◌, ℕ, zero, suc, ◌<◌, List, [], ◌∷◌, map, length, Contains, Option, Some, None, refl, sym, arith, subst}
use Rattle.std.specs.List.{flat_map, AllByRecursion as Each}
use Rattle.std.specs.Option.{unwrap_or}
use Rattle.std.proofs.lemmas.List.Elements.{Contains-append_left, Contains-append_right}
use Rattle.cs_document.specs.Document.{Document}
use Rattle.cs_document.proofs.Each.{each_map, each_of, each_front, each_back, each_member, each_over}
use Rattle.cs_document.proofs.Children.{children, by_children}
use Rattle.cs_package.specs.Expression as cue
use Rattle.cs_package.specs.Expression.{Expression, Expressions, no_expressions, expression, operands}
use Rattle.cs_package.specs.Environment.{Environment, bodies}
use Rattle.cs_guard.specs.References.{direct, direct_all, strong, strong_of}
use Rattle.cs_guard.specs.Guarded.{Chain, IsGuarded}
use Rattle.cs_guard.proofs.Ways.{direct-strong}
use Rattle.cs_instance.specs.Instance.{Rule, definition, node, constraint_of, all_bodies}
use Rattle.cs_instance.proofs.Parts.{here_parts}

-- ---- chains of direct references

-- each chain of direct references from n has fewer than k of them
abbrev pub Short : Environment → ℕ → List ℕ → Type 0
Short E zero n = ⊥
Short E (suc k) n = (bs : List Expression) → bodies E n ≡ Some bs → Each (λ b. Each (Short E k) (direct b)) bs

-- what holds of each name that the bodies refer to strongly holds of those that one body refers to directly
strong-bodies : (P : List ℕ → Type 0) (bs : List Expression) → ((m : List ℕ) → Contains (flat_map strong bs) m → P m) → Each (λ b. Each P (direct b)) bs
strong-bodies P [] f = tt
strong-bodies P (b ∷ bs) f = (
  each_member P (direct b) (λ m c. f m (Contains-append_left (strong b) (flat_map strong bs) m (direct-strong b m c))),
  strong-bodies P bs (λ m c. f m (Contains-append_right (strong b) (flat_map strong bs) m c)),
)

short-from : (E : Environment) (k : ℕ) (n : List ℕ) → ((ns : List (List ℕ)) → Chain E n ns → length ns < k) → Short E k n
short-from E zero n f = let h = f [] tt in omega (arith, h)
short-from E (suc k) n f = λ bs e.
    strong-bodies (Short E k) bs (λ m c.
    let refers : Contains (strong_of E n) m = subst (λ o. Contains (flat_map strong (unwrap_or o [])) m) (sym e) c in
    short-from E k m (λ ns chain. let h = f (m ∷ ns) (refers, chain) in omega (arith, h)))

pub guarded-short : (E : Environment) → IsGuarded E → (n : List ℕ) → Short E 65 n
guarded-short E g n = short-from E 65 n (λ ns c. let h = g.short n ns c in omega (arith, h))

-- ---- the induction

any_direct : (e : Expression) → Each (λ n. Unit {0}) (direct e)
any_direct e = each_of (λ n. Unit {0}) (λ n. tt) (direct e)

module _ (E : Environment) (P : Rule → Document → Type 0) (step : (r : Rule) (x : Document) → Each (λ p. P p x) (here_parts (constraint_of E r)) → Each (λ y. (p : Rule) → P p y) (children x) → P r x) where
  module _ (x : Document) (kids : Each (λ y. (p : Rule) → P p y) (children x)) where
    -- an expression, where Q names the definitions that are done
    module _ (Q : List ℕ → Type 0) (done : (n : List ℕ) → Q n → P (definition n) x) where
      mutual
        through : (e : Expression) → Each Q (direct e) → P (node e) x
        through (cue.reference n) d = step (node (cue.reference n)) x (done n d.0, tt) kids
        through (cue.conjunction es) d = step (node (cue.conjunction es)) x (throughs es d) kids
        through (cue.disjunction es) d = step (node (cue.disjunction es)) x (throughs es d) kids
        through (cue.atom a) d = step (node (cue.atom a)) x tt kids
        through (cue.kind k) d = step (node (cue.kind k)) x tt kids
        through (cue.range l g) d = step (node (cue.range l g)) x tt kids
        through (cue.struct ds o) d = step (node (cue.struct ds o)) x tt kids
        through (cue.list es r) d = step (node (cue.list es r)) x tt kids

        throughs : (es : Expressions) → Each Q (direct_all es) → Each (λ p. P p x) (map node (operands es))
        throughs no_expressions d = tt
        throughs (expression e es) d = (through e (each_front Q (direct e) (direct_all es) d), throughs es (each_back Q (direct e) (direct_all es) d))

    definitions : (k : ℕ) (n : List ℕ) → Short E k n → P (definition n) x
    definitions zero n s = absurd s
    definitions (suc k) n s = step (definition n) x (bodies_done (definitions k) (bodies E n) refl) kids
      where
        bodies_done : ((m : List ℕ) → Short E k m → P (definition m) x) → (o : Option (List Expression)) → bodies E n ≡ o → Each (λ p. P p x) (here_parts (all_bodies o))
        bodies_done h None e = tt
        bodies_done h (Some bs) e = each_over node (λ p. P p x) bs (each_map _ _ (λ b d. through (Short E k) h b d) bs (s bs e))

    module _ (k : ℕ) (short : (n : List ℕ) → Short E k n) where
      any_rule : (r : Rule) → P r x
      any_rule (definition n) = definitions k n (short n)
      any_rule (node e) = through (λ n. Unit {0}) (λ n q. definitions k n (short n)) e (any_direct e)

pub guarded-induction : (E : Environment) → IsGuarded E → (P : Rule → Document → Type 0)
    → ((r : Rule) (x : Document) → Each (λ p. P p x) (here_parts (constraint_of E r)) → Each (λ y. (p : Rule) → P p y) (children x) → P r x)
    → (r : Rule) (x : Document) → P r x
guarded-induction E g P step r x = by_children (λ y. (p : Rule) → P p y) (λ y kids. any_rule E P step y kids 65 (guarded-short E g)) x r

use Rattle.std.proofs.Common.{◌≡◌, ℕ, suc, List, [], ◌∷◌, Some, sym, ap, ◌∙◌, subst, arith}
use Rattle.cs_grammar.specs.Tree.{Tree, DefinitionTree}
use Rattle.cs_grammar.specs.Bodies.{bodies}
use Rattle.cs_grammar.specs.View.{expr_view}
use Rattle.cs_defaults.specs.Checks.{TellsBody}
use Rattle.cs_defaults.specs.Leading.{leading, leading_of, leads, to}
use Rattle.cs_defaults.proofs.leading.+hands_on.Goals as goal

-- the only body refers to the definition s
next : (ds : List DefinitionTree) (most left : ℕ) (name s : List ℕ) (o p : ℕ) (e : Tree) → most ≡ suc left → bodies name ds ≡ e ∷ [] → to s p ≡ leading e → leads ds left (to s p) ≡ leads ds most (to name o)
next ds most left name s o p e one sole leads_to = ap (leads ds left) (leads_to ∙ sym (ap leading_of sole)) ∙ ap (λ n. leads ds n (to name o)) (sym one)

pub returns-in-To : goal.returns-in-To
returns-in-To t c ds o told =
    let name = c.args.name.now in
    let e = c.in-Some-Some.body in
    let one : c.args.most ≡ suc c.in-Some.left = omega (arith, c.in-Some.ensures) in
    let sole : bodies name ds ≡ expr_view e.now ∷ [] = subst (λ b. TellsBody b (bodies name ds)) (sym c.in-Some-Some.ensures.value ∙ ap Some c.in-Some-Some.field-0-is) (told name) in
    c.hands_on.ensures ds c.in-To.at told ∙ next ds c.args.most c.in-Some.left name c.in-To.name.now o c.in-To.at (expr_view e.now) one sole c.in-To.ensures

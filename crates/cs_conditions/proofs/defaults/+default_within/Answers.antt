use Rattle.std.proofs.Common.{◌≡◌, ℕ, suc, List, Some, sym, ap, ◌∙◌, subst, arith}
use Rattle.cs_grammar.specs.Tree.{DefinitionTree}
use Rattle.cs_grammar.specs.Bodies.{bodies}
use Rattle.cs_conditions.specs.Checks.{TellsLead}
use Rattle.cs_conditions.specs.Defaults.{Lead, lead_of, default_within, to}
use Rattle.cs_conditions.proofs.defaults.+default_within.Goals as goal

-- the definition leads there
next : (ds : List DefinitionTree) (most left : ℕ) (name : List ℕ) (l : Lead) → most ≡ suc left → l ≡ lead_of (bodies name ds) → default_within ds left l ≡ default_within ds most (to name)
next ds most left name l one leads = ap (default_within ds left) leads ∙ ap (λ n. default_within ds n (to name)) (sym one)

pub returns-in-To : goal.returns-in-To
returns-in-To t c ds told =
    let name = c.args.name.now in
    let one : c.args.most ≡ suc c.in-Some.left = omega (arith, c.in-Some.ensures) in
    let leads = subst (λ o. TellsLead o (bodies name ds)) (sym c.in-Some-get.ensures.value ∙ ap Some c.in-To.is) (told name) in
    c.default_within.ensures ds told ∙ next ds c.args.most c.in-Some.left name (to c.in-To.next.now) one leads.1

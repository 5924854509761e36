use Rattle.std.proofs.Common.{◌≡◌, ℕ, List, IfSome, IfNone, Some, sym, ap, ◌∙◌, subst, ◌∷◌}
use Rattle.cs_package.specs.Environment.{Environment, Names, name_at}
use Rattle.cs_package.specs.View.{names_of}
use Rattle.cs_package.proofs.Environments.{found_at, found_nowhere}
use Rattle.cs_package.proofs.package.Package.find.Goals as goal

pub returns-clause-found : goal.returns-clause-found
returns-clause-found c =
    let P : Environment → Type 0 = λ E. IfSome c.get_index_of.result (λ i. (n : List ℕ) × Names E c.args.name.now n × (name_at E i ≡ Some n)) in
    let cut = c.in_ok-strip_prefix.ensures.cases in
    let text = cut.1.1 ∙ ap (λ s. 35 ∷ s) (sym cut.2) in
    subst P c.self.view_is
    (found_at (names_of c.self.inside.names.entries) _ c.self.inside.names.entries c.self.inside.bodies.items c.self.invariant.long c.get_index_of.result c.get_index_of.ensures.index c.get_index_of.ensures.found c.args.name.now text)

pub returns-clause-unknown : goal.returns-clause-unknown
returns-clause-unknown c =
    let P : Environment → Type 0 = λ E. IfNone c.get_index_of.result ((n : List ℕ) → ¬ Names E c.args.name.now n) in
    let cut = c.in_ok-strip_prefix.ensures.cases in
    let text = cut.1.1 ∙ ap (λ s. 35 ∷ s) (sym cut.2) in
    subst P c.self.view_is
    (found_nowhere (names_of c.self.inside.names.entries) _ c.self.inside.names.entries c.self.inside.bodies.items c.self.invariant.long c.get_index_of.result c.get_index_of.ensures.found c.args.name.now text)

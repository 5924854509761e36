use Rattle.std.proofs.Common.{◌≡◌, ℕ, List, Option, is_some, IfSome, true≢false, sym, ap, ◌∙◌, subst}
use Rattle.cs_package.specs.Environment.{Environment, name_at, written, IsDefinitionName}
use Rattle.cs_package.specs.View.{environment_of, names_of}
use Rattle.cs_package.proofs.Environments.{within-both, name_at-is, written-at, spelled-at}
use Rattle.cs_package.proofs.package.Package.name.Goals as goal

pub unreachable-requires : goal.unreachable-requires
unreachable-requires c =
    let inside = c.self.inside in
    let within = within-both (names_of inside.names.entries) inside.names.entries inside.bodies.items c.args.i c.self.invariant.long c.self.view_is c.requires in
    true≢false (sym (c.get_index.ensures.found.1 within.0) ∙ ap is_some c.in-None.is)

pub returns-clause-text : goal.returns-clause-text
returns-clause-text c =
    let inside = c.self.inside in
    let P : Environment → Type 0 = λ E. IfSome (name_at E c.args.i) (λ n. c.as_str.result.now ≡ written n) in
    let Q : List ℕ → Type 0 = λ w. IfSome (name_at (environment_of (names_of inside.names.entries) inside.names.entries inside.bodies.items) c.args.i) (λ n. w ≡ written n) in
    subst P c.self.view_is
    (subst Q (sym c.as_str.ensures.value) (written-at (names_of inside.names.entries) inside.names.entries inside.bodies.items c.args.i _ _ c.self.invariant.long c.self.invariant.table.written c.in-Some.ensures.entry))

pub returns-clause-spelled : goal.returns-clause-spelled
returns-clause-spelled c =
    let inside = c.self.inside in
    let P : Environment → Type 0 = λ E. IfSome (name_at E c.args.i) IsDefinitionName in
    let Q : Option (List ℕ) → Type 0 = λ o. IfSome o IsDefinitionName in
    subst P c.self.view_is
    (subst Q (sym (name_at-is (names_of inside.names.entries) inside.names.entries inside.bodies.items c.args.i c.self.invariant.long)) (spelled-at inside.names.entries c.args.i c.self.invariant.table.spelled))

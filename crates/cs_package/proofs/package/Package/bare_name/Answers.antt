use Rattle.std.proofs.Common.{◌≡◌, is_some, Some, true≢false, sym, ap, ◌∙◌, subst}
use Rattle.cs_package.specs.Environment.{Environment, name_at, IsDefinitionName}
use Rattle.cs_package.specs.View.{names_of}
use Rattle.cs_package.proofs.Environments.{within-both, name-there, spelled-name}
use Rattle.cs_package.proofs.package.Package.bare_name.Goals as goal

pub unreachable-requires : goal.unreachable-requires
unreachable-requires c =
    let inside = c.self.inside in
    let within = within-both (names_of inside.names.entries) inside.names.entries inside.bodies.items c.args.i c.self.invariant.long c.self.view_is c.requires in
    true≢false (sym (c.get_index.ensures.found.1 within.0) ∙ ap is_some c.in-None.is)

pub returns-clause-at : goal.returns-clause-at
returns-clause-at c =
    let inside = c.self.inside in
    let P : Environment → Type 0 = λ E. name_at E c.args.i ≡ Some c.as_str.result.now in
    subst P c.self.view_is
    (name-there (names_of inside.names.entries) inside.names.entries inside.bodies.items c.args.i _ _ c.self.invariant.long c.in-Some.ensures.entry ∙ ap Some (sym c.as_str.ensures.value))

pub returns-clause-spelled : goal.returns-clause-spelled
returns-clause-spelled c =
    let inside = c.self.inside in
    let entries = inside.names.entries in
    subst IsDefinitionName (sym c.as_str.ensures.value) (spelled-name entries c.args.i _ _ c.self.invariant.table.spelled c.in-Some.ensures.entry)

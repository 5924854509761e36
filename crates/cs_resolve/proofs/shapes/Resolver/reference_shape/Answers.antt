use Rattle.std.proofs.Common.{◌++◌, [], map, length, slice_get, sym, ap, ◌∙◌}
use Rattle.cs_package.specs.Expression as cue
use Rattle.cs_resolve.specs.Scopes.{reference_faults}
use Rattle.cs_package.specs.View.{names_of}
use Rattle.cs_package.proofs.Environments.{place}
use Rattle.cs_resolve.proofs.NameTables.{declared-is, name-there, number-known}
use Rattle.cs_package.proofs.Views.{of-Definition, known-Definition}
use Rattle.cs_resolve.proofs.shapes.Resolver.reference_shape.Goals as goal

pub returns-in-Some : goal.returns-in-Some
returns-in-Some c rs scopes =
    let es = c.args.self.now.names.now.entries in
    let ns = names_of es in
    let t = c.args.name.now in
    let i = c.in-Some.number in
    let there = place ns t es i (sym c.in-Some.ensures.index) in (
      record { same = of-Definition ns i ∙ ap cue.reference (name-there ns i t there); known = known-Definition (length ns) i ∙ number-known ns i t there },
      ap (λ b. map (λ x. (c.args.self.now.file, x)) (reference_faults c.args.at b ++ [])) (declared-is t es ∙ sym c.in-Some.ensures.found),
    )

pub returns-in-None : goal.returns-in-None
returns-in-None c rs scopes = ap (λ b. slice_get (map (λ x. (c.args.self.now.file, x)) (reference_faults c.args.at b ++ [])) 0) (declared-is c.args.name.now c.args.self.now.names.now.entries ∙ sym c.in-None.ensures.found)

use Rattle.std.proofs.Common.{map, sym, ◌∙◌}
use Rattle.std.proofs.lemmas.Simd.{map-map}
use Rattle.cs_package.specs.Environment.{written}
use Rattle.cs_guard.specs.Numbered.{name_of}
use Rattle.cs_guard.proofs.guarded.cycle_fault.Goals as goal

pub returns-in-Ok : goal.returns-in-Ok
returns-in-Ok c =
    let E = c.args.package.now in
    let numbers = c.args.numbers.now in
    (map (name_of E) numbers, c.in-Ok.ensures ∙ sym (map-map written (name_of E) numbers), c.requires.cycle)

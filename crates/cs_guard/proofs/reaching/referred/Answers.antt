use Rattle.std.proofs.Common.{◌<◌, length, get_or, sym, ◌∙◌, subst}
use Rattle.std.specs.List.{All}
use Rattle.cs_graph.specs.Chains.{On}
use Rattle.cs_graph.proofs.Places.{on_get}
use Rattle.cs_guard.specs.Numbered.{name_of}
use Rattle.cs_guard.specs.declared.references.Followed.TheVariants.{Every}
use Rattle.cs_guard.proofs.GraphRows.{row_of}
use Rattle.cs_guard.proofs.Takes.{taken_every}
use Rattle.cs_guard.proofs.reaching.referred.Goals as goal

pub returns-clause-names : goal.returns-clause-names
returns-clause-names c =
    let E = c.args.package.now in
    let row = row_of Every E c.args.number c.in_ok-numbers.numbers.items c.bodies.result.now c.requires c.bodies.ensures.at c.bodies.ensures.named c.bodies.ensures.known c.in_ok-numbers.ensures in
    row.names ∙ taken_every E (name_of E c.args.number)

pub returns-clause-within : goal.returns-clause-within
returns-clause-within c = λ k d small.
    let E = c.args.package.now in
    let row = row_of Every E c.args.number c.in_ok-numbers.numbers.items c.bodies.result.now c.requires c.bodies.ensures.at c.bodies.ensures.named c.bodies.ensures.known c.in_ok-numbers.ensures in
    row.within (get_or c.in_ok-numbers.numbers.items k d) (on_get c.in_ok-numbers.numbers.items k d small)

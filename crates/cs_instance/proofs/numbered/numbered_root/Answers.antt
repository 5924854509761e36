use Rattle.std.proofs.Common.{ap, sym, subst}
use Rattle.std.specs.Option.{unwrap_or}
use Rattle.std.specs.Prelude.{[]}
use Rattle.cs_package.specs.Environment.{Environment, Names}
use Rattle.cs_guard.specs.Numbered.{name_of}
use Rattle.cs_instance.proofs.numbered.numbered_root.Goals as goal

pub returns-clause-named : goal.returns-clause-named
returns-clause-named c =
    let found = c.in-Some.ensures.found in
    let P = λ (E : Environment). Names E c.args.root.now (name_of E c.in-Some.definition) in
    subst P c.package.ensures.kept (subst (Names c.package.result.now c.args.root.now) (sym (ap (λ o. unwrap_or o []) found.2)) found.1)

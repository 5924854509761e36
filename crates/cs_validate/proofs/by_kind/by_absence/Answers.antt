use Rattle.std.proofs.Common.{ap}
use Rattle.cs_rules.specs.declared.by_kind.ByKind.{ByKind}
use Rattle.cs_validate.proofs.ByKind.{absence_decides}
use Rattle.cs_validate.proofs.by_kind.by_absence.Goals as goal

pub returns : goal.returns
returns c =
    let others = c.of.ensures in
    absence_decides c.args.conjunction.now _ (ap (λ (k : ByKind). k.null) others) (ap (λ (k : ByKind). k.boolean) others) _ _ _ _ (c.then_some.ensures, c.asks_nothing_of_integers.ensures)
    (c.then_some-2.ensures, c.asks_nothing_of_texts.ensures) (c.then_some-3.ensures, c.asks_nothing_of_lists.ensures) (c.then_some-4.ensures, c.asks_nothing_of_maps.ensures)

use Rattle.std.proofs.Common.{[], refl, ap, ◌∙◌, take}
use Rattle.std.proofs.lemmas.List.{take_min}
use Rattle.cs_place.specs.Positions.{position_behind}
use Rattle.cs_place.proofs.position.position_of.Goals as goal

pub returns : goal.returns
returns c =
    c.behind.ensures [] refl
    ∙ ap position_behind (ap (λ n. take n c.args.text.now) c.min.ensures ∙ take_min c.args.offset c.args.text.now)

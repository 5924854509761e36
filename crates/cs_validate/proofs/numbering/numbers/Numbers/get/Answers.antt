use Rattle.std.proofs.Common.{◌≡◌, sym, ◌∙◌, subst, arith}
use Rattle.cs_validate.specs.Placing.{number_in}
use Rattle.cs_validate.proofs.ByPlace.{place_within, number_there}
use Rattle.cs_validate.proofs.numbering.numbers.Numbers.get.Goals as goal

pub index-requires : goal.index-requires
index-requires c =
    let s = c.self.inside in
    let within = place_within s.document.now.definitions s.by_place.items c.args.name.now c.in_ok-place.place c.self.invariant (sym c.number.ensures.place ∙ c.in_ok-place.was) in
    omega (arith, within, s.by_place.ok.0)

pub returns : goal.returns
returns c =
    let s = c.self.inside in
    subst (λ numbers. c.index.result.now ≡ number_in numbers c.args.name.now) c.self.view_is
    (c.index.ensures ∙ number_there s.document.now.definitions s.by_place.items c.args.name.now c.in_ok-place.place c.self.invariant (sym c.number.ensures.place ∙ c.in_ok-place.was) c.index.result.now)

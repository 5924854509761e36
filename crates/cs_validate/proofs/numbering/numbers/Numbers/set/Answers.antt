use Rattle.std.proofs.Common.{◌≡◌, ℕ, List, Some, slice_set, sym, ◌∙◌, subst, if◌then◌else◌, arith}
use Rattle.std.specs.Str.{bytes_eq}
use Rattle.cs_profile.specs.Numbered.{names_in}
use Rattle.cs_validate.specs.Placing.{Numbers, number_in}
use Rattle.cs_validate.proofs.ByPlace.{place_within, number_set}
use Rattle.cs_validate.proofs.numbering.numbers.Numbers.set.Goals as goal

pub index_mut-requires : goal.index_mut-requires
index_mut-requires c =
    let s = c.self.inside in
    let within = place_within s.document.now.definitions s.by_place.items c.args.name.now c.in-Some.place c.self.invariant (sym c.number.ensures.place ∙ c.in-Some.is) in
    omega (arith, within, s.by_place.ok.0)

pub returns-in-Some-clause-numbers : goal.returns-in-Some-clause-numbers
returns-in-Some-clause-numbers c =
    let s = c.self.inside in
    let new : Numbers = (names_in s.document.now.definitions, slice_set s.by_place.items c.in-Some.place (Some c.args.number)) in
    subst (λ numbers. (m : List ℕ) → number_in new m ≡ (if bytes_eq c.args.name.now m then Some c.args.number else number_in numbers m)) c.self.view_is
    (number_set s.document.now.definitions s.by_place.items c.args.name.now c.in-Some.place c.self.invariant (sym c.number.ensures.place ∙ c.in-Some.is) c.args.number)

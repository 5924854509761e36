use Rattle.std.proofs.Common.{◌≡◌, ℕ, List, Some, bytes_eq, subst, if◌then◌else◌}
use Rattle.cs_validate.specs.Placing.{number_in}
use Rattle.cs_validate.proofs.numbering.definitions.place_definition.Goals as goal

pub returns : goal.returns
returns c =
    let number = c.in_ok-number.number in
    let numbers = λ (n : List ℕ). (m : List ℕ) → number_in c.set.new.self m ≡ (if bytes_eq n m then Some number else number_in c.args.placement.now.numbers m) in
    record { number = number; placed = c.in_ok-number.ensures; names = c.set.ensures.names; named = subst numbers c.as_str.ensures.value c.set.ensures.numbers }

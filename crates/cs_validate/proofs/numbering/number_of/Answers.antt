use Rattle.std.proofs.Common.{option_and_then, string_bytes, ap, ◌∙◌}
use Rattle.cs_validate.specs.Placing.{number_in}
use Rattle.cs_validate.proofs.numbering.number_of.Goals as goal

pub returns : goal.returns
returns c =
    let numbers = c.args.numbers.now in
    c.get.ensures ∙ ap (number_in numbers) c.as_str.ensures.value ∙ ap (option_and_then (λ s. number_in numbers (string_bytes s))) c.in_ok-name.ensures.value

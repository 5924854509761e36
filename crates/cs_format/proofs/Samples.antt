-- What is asked of each form, worked by the definitions. A wrong expectation stops the check here. `flag` and `basic` are the output formats of
-- sections 12.4.1 and 12.4.2 of JSON Schema Core 2020-12.
use Rattle.std.proofs.Common.{◌≡◌, List, [], ◌∷◌, map, true, false, refl}
use Rattle.cs_format.specs.declared.Form.{Form}
use Rattle.cs_format.specs.declared.Form.TheVariants.{Lines, Object}
use Rattle.cs_format.specs.declared.Format.TheVariants.{Json, Flag, Basic}
use Rattle.cs_format.specs.Formats.{asks_standard, asks_reasons}

abbrev forms : List Form
forms = Lines ∷ Object Json ∷ Object Flag ∷ Object Basic ∷ []

standard : map asks_standard forms ≡ false ∷ false ∷ true ∷ true ∷ []
standard = refl

with_reasons : map asks_reasons forms ≡ true ∷ true ∷ false ∷ true ∷ []
with_reasons = refl

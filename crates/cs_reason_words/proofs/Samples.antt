-- What is told of verdicts in each form, worked by the definitions. A wrong expectation stops the check here. The objects of `flag` and
-- `basic` are those of sections 12.4.1 and 12.4.2 of JSON Schema Core 2020-12.
use Rattle.std.proofs.Common.{◌≡◌, List, [], ◌∷◌, map, true, false, codes, refl}
use Rattle.cs_format.specs.declared.Form.{Form}
use Rattle.cs_format.specs.declared.Form.TheVariants.{Lines, Object}
use Rattle.cs_format.specs.declared.Format.TheVariants.{Json, Flag, Basic}
use Rattle.cs_reason_words.specs.Valid.{report_text}

abbrev forms : List Form
forms = Lines ∷ Object Json ∷ Object Flag ∷ Object Basic ∷ []

valid : map (λ form. report_text form true (codes ",\"errors\":[]")) forms ≡ [] ∷ codes "{\"valid\":true}\n" ∷ codes "{\"valid\":true}\n" ∷ codes "{\"valid\":true}\n" ∷ []
valid = refl

invalid : map (λ form. report_text form false (codes ",\"errors\":[]")) forms
    ≡ codes ",\"errors\":[]" ∷ codes "{\"valid\":false,\"errors\":[]}\n" ∷ codes "{\"valid\":false}\n" ∷ codes "{\"valid\":false,\"errors\":[]}\n" ∷ []
invalid = refl

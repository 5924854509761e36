-- The name of a definition may be in a `$ref`.
use Rattle.std.proofs.Common.{◌≡◌, ℕ, List, [], ◌∷◌, true, ◌&&◌, refl, ap₂, arith}
use Rattle.std.specs.List.{list_all}
use Rattle.std.proofs.lemmas.Bool.Decides.{nat_tests}
use Rattle.std.proofs.lemmas.Bool.{and_parts}
use Rattle.cs_grammar.specs.Spelling.{is_name_byte, begins_definition}
use Rattle.cs_package.specs.Environment.{IsDefinitionName}
use Rattle.cs_profile.specs.Shapes.{is_name, is_name_code}

name_byte : (x : ℕ) → is_name_byte x ≡ true → is_name_code x ≡ true
name_byte x h = grind (arith, nat_tests)

first_byte : (x : ℕ) → begins_definition x ≡ true → is_name_code x ≡ true
first_byte x h = grind (arith, nat_tests)

name_bytes : (xs : List ℕ) → list_all is_name_byte xs ≡ true → list_all is_name_code xs ≡ true
name_bytes [] h = refl
name_bytes (x ∷ xs) h = let g = and_parts (is_name_byte x) (list_all is_name_byte xs) h in ap₂ (λ a b. a && b) (name_byte x g.0) (name_bytes xs g.1)

pub definition_name : (n : List ℕ) → IsDefinitionName n → is_name n ≡ true
definition_name [] h = cc
definition_name (x ∷ xs) h =
    let g = and_parts (begins_definition x) (list_all is_name_byte xs) h in ap₂ (λ a b. a && b) (first_byte x g.0) (name_bytes xs g.1)

-- Texts by their parts, as a relation (CUE, string and byte sequence literals). The law `text_parts` says that it is `sort_of` and `unescaped` on texts.
use Rattle.std.specs.Prelude.{◌≡◌, ℕ, List, [], ◌∷◌, ◌++◌, true, false, ◌==◌, ◌||◌, Some, encode_utf8}
use Rattle.std.specs.List.{list_all}
use Rattle.cs_grammar.specs.Spelling.{is_hex_digit, escape_value, is_character, hex_number}

-- hexadecimal digits that are the number of a character
pub record IsNumber (ds : List ℕ) : Type 0 where
  pub digits : list_all is_hex_digit ds ≡ true
  pub character : is_character (hex_number 0 ds) ≡ true

-- TextParts xs cs: behind its first quote a text is the bytes xs, and cs is the UTF-8 of its characters. (34 is the quote, 92 the backslash, 117 `u`, 85 `U`.)
pub data TextParts : List ℕ → List ℕ → Type 0 where
  ends : TextParts (34 ∷ []) []
  plain : {x : ℕ} {xs cs : List ℕ} → (x == 34 || x == 92 || x == 10) ≡ false → TextParts xs cs → TextParts (x ∷ xs) (x ∷ cs)
  escape : {x c : ℕ} {xs cs : List ℕ} → escape_value x ≡ Some c → TextParts xs cs → TextParts (92 ∷ x ∷ xs) (c ∷ cs)
  four : {a b c d : ℕ} {xs cs : List ℕ} → IsNumber (a ∷ b ∷ c ∷ d ∷ []) → TextParts xs cs → TextParts (92 ∷ 117 ∷ a ∷ b ∷ c ∷ d ∷ xs) (encode_utf8 (hex_number 0 (a ∷ b ∷ c ∷ d ∷ [])) ++ cs)
  eight : {a b c d e f g h : ℕ} {xs cs : List ℕ} → IsNumber (a ∷ b ∷ c ∷ d ∷ e ∷ f ∷ g ∷ h ∷ []) → TextParts xs cs → TextParts (92 ∷ 85 ∷ a ∷ b ∷ c ∷ d ∷ e ∷ f ∷ g ∷ h ∷ xs) (encode_utf8 (hex_number 0 (a ∷ b ∷ c ∷ d ∷ e ∷ f ∷ g ∷ h ∷ [])) ++ cs)

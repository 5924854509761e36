-- How long documents are: the characters of a text, the elements of a list, the keys of a map.
use Rattle.std.specs.Prelude.{ℕ, suc, List, [], ◌∷◌, length, Bool, ◌&&◌, leb, if◌then◌else◌, Option, Some, None}
use Rattle.cs_document.specs.Opened.{Opened, a_text, a_list, an_object}

-- whether a byte goes on with a character, as 10xxxxxx (RFC 3629, section 3)
abbrev pub goes_on : ℕ → Bool
goes_on b = leb 128 b && leb b 191

-- how many characters a text has, by its bytes in UTF-8: code points, so that a combining mark is one (RFC 8259, sections 7 and 8.2)
abbrev pub text_length : List ℕ → ℕ
text_length [] = 0
text_length (b ∷ bs) = if goes_on b then text_length bs else suc (text_length bs)

-- what is counted
pub data Counted : Type 0 where
  Characters Elements Keys : Counted

-- how many of these a document has, if it is of the kind that has them
abbrev pub size_of : {A : Type 0} → Counted → Opened A → Option ℕ
size_of Characters (a_text s) = Some (text_length s)
size_of Elements (a_list ds) = Some (length ds)
size_of Keys (an_object ms) = Some (length ms)
size_of _ _ = None

-- Attributes (CUE, attributes): `@`, an identifier, and in parentheses tokens whose brackets are balanced. Which tokens they are isn't looked at, but a text and a comment each count as a whole: what is in them opens and closes no bracket.
use Rattle.std.specs.Prelude.{ℕ, suc, ◌+◌, List, [], ◌∷◌, drop, Bool, false, ◌==◌, ◌&&◌, ◌||◌, if◌then◌else◌, Option, Some, None, is_some}
use Rattle.std.specs.List.{prefix_len}
use Rattle.std.specs.Option.{option_map}
use Rattle.cs_grammar.specs.declared.attribute.AttributeStep.{AttributeStep}
use Rattle.cs_grammar.specs.declared.attribute.AttributeStep.TheVariants.{Opens, Closes, Stays, Fails}
use Rattle.cs_grammar.specs.declared.attribute.Opened.{Opened}
use Rattle.cs_grammar.specs.declared.attribute.Opened.TheVariants as opened
use Rattle.cs_grammar.specs.declared.profile.Profile.{Profile}
use Rattle.cs_grammar.specs.declared.profile.Profile.TheVariants as profiles
use Rattle.cs_grammar.specs.Front.{begins_quotes, begins_comment}
use Rattle.cs_grammar.specs.Cut.{no_attribute}
use Rattle.cs_grammar.specs.Spelling.{begins_definition, is_name_byte, escape_value}

-- ---- texts of CUE that the profiles leave out

-- `#"`, a text whose backslashes are no escapes
abbrev pub begins_raw : List ℕ → Bool
begins_raw (x ∷ y ∷ xs) = x == 35 && y == 34
begins_raw _ = false

-- `'`, bytes
abbrev pub begins_bytes : List ℕ → Bool
begins_bytes (x ∷ xs) = x == 39
begins_bytes _ = false

abbrev pub begins_other_text : List ℕ → Bool
begins_other_text bs = begins_bytes bs || begins_raw bs || begins_quotes bs

-- ---- one byte

-- outside texts and comments: `(` (40), `[` (91), `{` (123) and `"` (34) open something
abbrev pub opening_step : ℕ → AttributeStep
opening_step x =
    if x == 40 then Opens opened.Paren else (
    if x == 91 then Opens opened.List else (
    if x == 123 then Opens opened.Struct else (
    if x == 34 then Opens opened.Text else
    Stays)))

-- `)`, `]` and `}`
abbrev pub is_closing : ℕ → Bool
is_closing x = x == 41 || x == 93 || x == 125

-- the first byte, where the bracket that was opened last is closed by c: a comment begins with `//`, and a text of another form is no part of an attribute
abbrev pub bracket_step : ℕ → List ℕ → AttributeStep
bracket_step c [] = Fails
bracket_step c (x ∷ xs) =
    if x == c then Closes else (
    if is_closing x || begins_other_text (x ∷ xs) then Fails else (
    if begins_comment (x ∷ xs) then Opens opened.Comment else
    opening_step x))

-- in a text: the quote closes it, and a backslash (92) opens an escape; it is on one line
abbrev pub quoted_step : ℕ → AttributeStep
quoted_step x = if x == 34 then Closes else (if x == 92 then Opens opened.Escape else (if x == 10 then Fails else Stays))

-- behind a backslash: the letter of an escape, also of one by number (`u` and `U`)
abbrev pub escaped_step : ℕ → AttributeStep
escaped_step x = if is_some (escape_value x) || x == 117 || x == 85 then Closes else Fails

-- in a comment: the end of its line closes it
abbrev pub commented_step : ℕ → AttributeStep
commented_step x = if x == 10 then Closes else Stays

-- the first byte, by a step for each
abbrev pub first_step : (ℕ → AttributeStep) → List ℕ → AttributeStep
first_step step [] = Fails
first_step step (x ∷ xs) = step x

-- what the first byte does behind what was opened last
abbrev pub attribute_step : Opened → List ℕ → AttributeStep
attribute_step opened.Paren bs = bracket_step 41 bs
attribute_step opened.List bs = bracket_step 93 bs
attribute_step opened.Struct bs = bracket_step 125 bs
attribute_step opened.Text bs = first_step quoted_step bs
attribute_step opened.Escape bs = first_step escaped_step bs
attribute_step opened.Comment bs = first_step commented_step bs

-- ---- the whole

abbrev pub open_len_by : AttributeStep → Opened → List Opened → (Opened → List Opened → Option ℕ) → Option ℕ
open_len_by (Opens i) o os again = option_map suc (again i (o ∷ os))
open_len_by Closes o [] again = Some 1
open_len_by Closes o (p ∷ os) again = option_map suc (again p os)
open_len_by Stays o os again = option_map suc (again o os)
open_len_by Fails o os again = None

-- how many bytes there are up to the end of all that is open, which is o and around it os, the innermost first
unfoldable pub open_len : Opened → List Opened → List ℕ → Option ℕ
open_len o os [] = None
open_len o os (x ∷ xs) = open_len_by (attribute_step o (x ∷ xs)) o os (λ p ps. open_len p ps xs)

-- the length of what is in parentheses, with these
abbrev pub parenthesis_len : List ℕ → Option ℕ
parenthesis_len [] = None
parenthesis_len (x ∷ xs) = if x == 40 then option_map suc (open_len opened.Paren [] xs) else None

-- `@` (64), and what an identifier begins with
abbrev pub begins_attribute : List ℕ → Bool
begins_attribute (x ∷ y ∷ xs) = x == 64 && begins_definition y
begins_attribute _ = false

-- the length of an attribute's `@` and of its identifier
abbrev pub head_len : List ℕ → ℕ
head_len bs = 1 + prefix_len is_name_byte (drop 1 bs)

-- the length of the attribute at the front of a text, if one is there
abbrev pub attribute_len : List ℕ → Option ℕ
attribute_len bs = if begins_attribute bs then option_map (λ n. head_len bs + n) (parenthesis_len (drop (head_len bs) bs)) else None

-- the wide profile has attributes
abbrev pub attribute_in : Profile → List ℕ → Option ℕ
attribute_in profiles.Default = no_attribute
attribute_in profiles.Wide = attribute_len

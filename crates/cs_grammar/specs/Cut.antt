-- How a text is cut into tokens, from the left (CUE, lexical elements). A text is cut in one way, or is stuck at one place (`Stuck`).
use Rattle.std.specs.Prelude.{◌≡◌, ℕ, ◌+◌, ◌^◌, ◌<◌, ◌≤◌, List, [], ◌∷◌, take, drop, length, Bool, true, false, ◌==◌, ◌&&◌, ◌||◌, not, nat_lt, nat_le, if◌then◌else◌, Option, Some, None}
use Rattle.std.specs.List.{prefix_len}
use Rattle.cs_grammar.specs.declared.token.Sort.{Sort}
use Rattle.cs_grammar.specs.declared.token.Sort.TheVariants as sorts
use Rattle.cs_grammar.specs.declared.line.LineState.{LineState}
use Rattle.cs_grammar.specs.declared.line.LineState.TheVariants.{Plain, WantsComma, Minus}
pub use Rattle.cs_grammar.specs.Front.{begins_quotes, begins_comment}
use Rattle.cs_grammar.specs.Spelling.{is_digit, is_run_byte, is_integer, sort_of}
use Rattle.cs_grammar.specs.Values.{integer_value}

-- ---- a token that begins here

-- the first n bytes are a token of that sort, and no longer front is one
pub record IsLongest (bs : List ℕ) (n : ℕ) (s : Sort) : Type 0 where
  pub within : n ≤ length bs
  pub spelled : sort_of (take n bs) ≡ Some s
  pub longest : (m : ℕ) → n < m → m ≤ length bs → sort_of (take m bs) ≡ None

-- the longest run of letters, digits, `_` and `.`
abbrev pub run : List ℕ → ℕ
run bs = prefix_len is_run_byte bs

-- a digit whose run is no integer
abbrev pub begins_bad_number : List ℕ → Bool
begins_bad_number [] = false
begins_bad_number (x ∷ xs) = is_digit x && not (is_integer (take (run (x ∷ xs)) (x ∷ xs)))

-- the length of what is left of the line
abbrev pub line_len : List ℕ → ℕ
line_len bs = prefix_len (λ x. not (x == 10)) bs

-- an integer that hasn't 64 signed bits: the least one needs a `-` as the token before it
abbrev pub is_too_large : LineState → List ℕ → Bool
is_too_large Minus t = nat_lt (2 ^ 63) (integer_value t)
is_too_large Plain t = nat_le (2 ^ 63) (integer_value t)
is_too_large WantsComma t = nat_le (2 ^ 63) (integer_value t)

abbrev pub is_out_of_range : LineState → Sort → List ℕ → Bool
is_out_of_range l sorts.Integer t = is_too_large l t
is_out_of_range l _ t = false

-- a token is here, and neither a comment nor what is refused
pub record Begins (l : LineState) (bs : List ℕ) (n : ℕ) (s : Sort) : Type 0 where
  pub no_bad_number : begins_bad_number bs ≡ false
  pub no_quotes : begins_quotes bs ≡ false
  pub no_comment : begins_comment bs ≡ false
  pub in_range : is_out_of_range l s (take n bs) ≡ false
  pub token : IsLongest bs n s

-- ---- lines

-- space, tab and carriage return
abbrev pub is_space : ℕ → Bool
is_space x = x == 32 || x == 9 || x == 13

-- what a mark means for what follows: the end of a line behind `)`, `]`, `}`, `?` and `...` inserts a comma; 45 is `-`
abbrev pub line_after_mark : List ℕ → LineState
line_after_mark (x ∷ []) = if x == 45 then Minus else (if x == 41 || x == 93 || x == 125 || x == 63 then WantsComma else Plain)
line_after_mark (x ∷ y ∷ z ∷ []) = if x == 46 && (y == 46 && z == 46) then WantsComma else Plain
line_after_mark _ = Plain

-- what a token means for what follows
abbrev pub line_after : Sort → List ℕ → LineState
line_after sorts.Name t = WantsComma
line_after sorts.Definition t = WantsComma
line_after sorts.Hidden t = WantsComma
line_after sorts.Top t = WantsComma
line_after sorts.Bottom t = WantsComma
line_after sorts.Integer t = WantsComma
line_after sorts.Text t = WantsComma
line_after sorts.Mark t = line_after_mark t
line_after sorts.Wide t = Plain
line_after sorts.LeftOut t = Plain
line_after sorts.Inserted t = Plain
line_after sorts.End t = Plain

-- the end of a line inserts its comma, and leaves the `-` that the last token may be
abbrev pub line_ended : LineState → LineState
line_ended Plain = Plain
line_ended WantsComma = Plain
line_ended Minus = Minus

-- a token: its sort, its text and its offset
pub data Lexeme : Type 0 where
  lexeme : Sort → List ℕ → ℕ → Lexeme

-- the comma that the end of a line inserts; a comment is the end of its line
abbrev pub comma_if : LineState → ℕ → List Lexeme → List Lexeme
comma_if WantsComma o ks = lexeme sorts.Inserted [] o ∷ ks
comma_if Plain o ks = ks
comma_if Minus o ks = ks

-- ---- the cut

-- CutBy attribute_at bs o l ks: the text bs, which begins at offset o behind a token that leaves the line as l, is blanks, comments, attributes and the tokens ks. `attribute_at` says how long the attribute at the front of a text is, if one is there. An attribute leaves the line as it was.
pub data CutBy (attribute_at : List ℕ → Option ℕ) : List ℕ → ℕ → LineState → List Lexeme → Type 0 where
  blank : {x o : ℕ} {bs : List ℕ} {l : LineState} {ks : List Lexeme} → is_space x ≡ true → CutBy attribute_at bs (o + 1) l ks → CutBy attribute_at (x ∷ bs) o l ks
  new_line : {x o : ℕ} {bs : List ℕ} {l : LineState} {ks : List Lexeme} → (x == 10) ≡ true → CutBy attribute_at bs (o + 1) (line_ended l) ks → CutBy attribute_at (x ∷ bs) o l (comma_if l o ks)
  comment : {o : ℕ} {bs : List ℕ} {l : LineState} {ks : List Lexeme} → begins_comment bs ≡ true → CutBy attribute_at (drop (line_len bs) bs) (o + line_len bs) (line_ended l) ks → CutBy attribute_at bs o l (comma_if l o ks)
  attribute : {n o : ℕ} {bs : List ℕ} {l : LineState} {ks : List Lexeme} → attribute_at bs ≡ Some n → CutBy attribute_at (drop n bs) (o + n) l ks → CutBy attribute_at bs o l ks
  token : {n o : ℕ} {s : Sort} {bs : List ℕ} {l : LineState} {ks : List Lexeme} → Begins l bs n s → CutBy attribute_at (drop n bs) (o + n) (line_after s (take n bs)) ks → CutBy attribute_at bs o l (lexeme s (take n bs) o ∷ ks)
  finish : {o : ℕ} {l : LineState} → CutBy attribute_at [] o l (comma_if l o (lexeme sorts.End [] o ∷ []))

-- the default profile has no attributes
abbrev pub no_attribute : List ℕ → Option ℕ
no_attribute bs = None

abbrev pub Cut : List ℕ → ℕ → LineState → List Lexeme → Type 0
Cut = CutBy no_attribute

-- the tokens of a source in the default profile
abbrev pub IsCut : List ℕ → List Lexeme → Type 0
IsCut bs ks = Cut bs 0 Plain ks

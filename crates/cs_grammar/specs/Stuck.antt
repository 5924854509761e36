-- Where a text that can't be cut into tokens is stuck (CUE, lexical elements).
use Rattle.std.specs.Prelude.{◌≡◌, ℕ, ◌+◌, ◌≤◌, List, ◌∷◌, take, drop, length, true, false, ◌==◌, Some, None}
use Rattle.cs_grammar.specs.declared.token.Sort.{Sort}
use Rattle.cs_grammar.specs.declared.token.Sort.TheVariants as sorts
use Rattle.cs_grammar.specs.declared.line.LineState.{LineState}
use Rattle.cs_grammar.specs.declared.line.LineState.TheVariants.{Plain}
use Rattle.cs_grammar.specs.declared.fault.SyntaxFault.{SyntaxFault}
use Rattle.cs_grammar.specs.declared.fault.SyntaxFault.TheVariants.{NoToken, IntegerRange}
use Rattle.cs_grammar.specs.declared.profile.Profile.{Profile}
use Rattle.cs_grammar.specs.declared.profile.Profile.TheVariants as profiles
use Rattle.cs_grammar.specs.Attribute.{attribute_in}
use Rattle.cs_grammar.specs.Spelling.{sort_of}
use Rattle.cs_grammar.specs.Cut.{IsLongest, begins_bad_number, begins_quotes, begins_comment, line_len, is_too_large, Begins, is_space, line_after, line_ended}

-- no front of it is a token
abbrev pub BeginsNone : List ℕ → Type 0
BeginsNone bs = (m : ℕ) → m ≤ length bs → sort_of (take m bs) ≡ None

-- no token of the profile begins here: a number of another form, three quotes, or nothing that is a token, a comment, a blank or the end of a line (an attribute is none of these)
pub data NoneBegins : List ℕ → Type 0 where
  number : {bs : List ℕ} → begins_bad_number bs ≡ true → NoneBegins bs
  quotes : {bs : List ℕ} → begins_quotes bs ≡ true → NoneBegins bs
  nothing : {x : ℕ} {bs : List ℕ} → is_space x ≡ false → (x == 10) ≡ false → begins_comment (x ∷ bs) ≡ false → BeginsNone (x ∷ bs) → NoneBegins (x ∷ bs)

-- an integer out of range begins here
pub record TooLarge (l : LineState) (bs : List ℕ) (n : ℕ) : Type 0 where
  pub no_bad_number : begins_bad_number bs ≡ false
  pub no_quotes : begins_quotes bs ≡ false
  pub no_comment : begins_comment bs ≡ false
  pub out_of_range : is_too_large l (take n bs) ≡ true
  pub token : IsLongest bs n sorts.Integer

-- StuckIn p bs o l f: in the profile p the text bs, which begins at offset o behind a token that leaves the line as l, is cut so up to the offset of f, where what f says stands.
pub data StuckIn (p : Profile) : List ℕ → ℕ → LineState → SyntaxFault → Type 0 where
  no_token : {o : ℕ} {bs : List ℕ} {l : LineState} → NoneBegins bs → attribute_in p bs ≡ None → StuckIn p bs o l (NoToken o)
  too_large : {o n : ℕ} {bs : List ℕ} {l : LineState} → TooLarge l bs n → StuckIn p bs o l (IntegerRange o)
  past_blank : {x o : ℕ} {bs : List ℕ} {l : LineState} {f : SyntaxFault} → is_space x ≡ true → StuckIn p bs (o + 1) l f → StuckIn p (x ∷ bs) o l f
  past_line : {x o : ℕ} {bs : List ℕ} {l : LineState} {f : SyntaxFault} → (x == 10) ≡ true → StuckIn p bs (o + 1) (line_ended l) f → StuckIn p (x ∷ bs) o l f
  past_comment : {o : ℕ} {bs : List ℕ} {l : LineState} {f : SyntaxFault} → begins_comment bs ≡ true → StuckIn p (drop (line_len bs) bs) (o + line_len bs) (line_ended l) f → StuckIn p bs o l f
  past_attribute : {n o : ℕ} {bs : List ℕ} {l : LineState} {f : SyntaxFault} → attribute_in p bs ≡ Some n → StuckIn p (drop n bs) (o + n) l f → StuckIn p bs o l f
  past_token : {n o : ℕ} {s : Sort} {bs : List ℕ} {l : LineState} {f : SyntaxFault} → Begins l bs n s → StuckIn p (drop n bs) (o + n) (line_after s (take n bs)) f → StuckIn p bs o l f

abbrev pub IsStuckIn : Profile → List ℕ → SyntaxFault → Type 0
IsStuckIn p bs f = StuckIn p bs 0 Plain f

-- in the default profile
abbrev pub Stuck : List ℕ → ℕ → LineState → SyntaxFault → Type 0
Stuck = StuckIn profiles.Default

abbrev pub IsStuck : List ℕ → SyntaxFault → Type 0
IsStuck = IsStuckIn profiles.Default

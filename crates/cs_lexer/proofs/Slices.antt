-- The tokens of a cut are slices of its text, in order.
use Rattle.std.proofs.Common.{◌≡◌, ℕ, ◌+◌, ◌≤◌, List, [], ◌∷◌, length, take, drop, refl, ap, ◌∙◌, arith}
use Rattle.std.proofs.lemmas.List.{drop-drop, length-drop, length-take-le}
use Rattle.cs_grammar.specs.declared.line.LineState.{LineState}
use Rattle.cs_grammar.specs.declared.line.LineState.TheVariants.{Plain, WantsComma, Minus}
use Rattle.cs_grammar.specs.declared.profile.Profile.{Profile}
use Rattle.cs_grammar.specs.Cut.{Lexeme, lexeme, line_len, comma_if, blank, new_line, comment, attribute, token, finish}
use Rattle.cs_grammar.specs.CutIn.{CutIn, IsCutIn}
use Rattle.cs_lexer.specs.Lexed.{AreSlices}
use Rattle.cs_lexer.proofs.Attributes.{attribute_in_within}
use Rattle.cs_lexer.proofs.Cutting.{line_within}

module _ (source : List ℕ) where
  -- the same from an earlier place on
  sooner : (o p : ℕ) (ks : List Lexeme) → o ≤ p → AreSlices source p ks → AreSlices source o ks
  sooner o p [] le h = tt
  sooner o p (lexeme s t q ∷ ks) le h = let from = h.0 in (omega arith, h.1, h.2, h.3)

  empty : (o : ℕ) (ks : List Lexeme) → AreSlices source o ks → AreSlices source (o + 0) ks
  empty o ks h = let is : o + 0 ≡ o = omega arith in rw is h

  comma_slices : (l : LineState) (o : ℕ) (ks : List Lexeme) → o ≤ length source → AreSlices source o ks → AreSlices source o (comma_if l o ks)
  comma_slices WantsComma o ks le h = (omega arith, omega arith, refl, empty o ks h)
  comma_slices Plain o ks le h = h
  comma_slices Minus o ks le h = h

  moved : (bs : List ℕ) (o n : ℕ) → bs ≡ drop o source → drop n bs ≡ drop (o + n) source
  moved bs o n is = ap (drop n) is ∙ grind (arith, drop-drop)

  within : (bs : List ℕ) (o n : ℕ) → bs ≡ drop o source → n ≤ length bs → o ≤ length source → o + n ≤ length source
  within bs o n is le in_range = omega (arith, length-drop o source, ap length is)

  cut_slices : (p : Profile) {bs : List ℕ} {o : ℕ} {l : LineState} {ks : List Lexeme} → CutIn p bs o l ks → bs ≡ drop o source → o ≤ length source → AreSlices source o ks
  cut_slices p (blank {x} {o} {bs} {l} {ks} h k) is le = sooner o (o + 1) ks (omega arith) (cut_slices p k (moved (x ∷ bs) o 1 is) (within (x ∷ bs) o 1 is (omega arith) le))
  cut_slices p (new_line {x} {o} {bs} {l} {ks} h k) is le = comma_slices l o ks le (sooner o (o + 1) ks (omega arith) (cut_slices p k (moved (x ∷ bs) o 1 is) (within (x ∷ bs) o 1 is (omega arith) le)))
  cut_slices p (comment {o} {bs} {l} {ks} h k) is le = comma_slices l o ks le (sooner o (o + line_len bs) ks (omega arith) (cut_slices p k (moved bs o (line_len bs) is) (within bs o (line_len bs) is (line_within bs) le)))
  cut_slices p (attribute {n} {o} {bs} {l} {ks} h k) is le = let short = attribute_in_within p bs n h in sooner o (o + n) ks (omega arith) (cut_slices p k (moved bs o n is) (within bs o n is short le))
  cut_slices p (token {n} {o} {s} {bs} {l} {ks} h k) is le =
      let len : length (take n bs) ≡ n = length-take-le n bs h.token.within in
      rw len (omega arith, within bs o n is h.token.within le, ap (take n) is, cut_slices p k (moved bs o n is) (within bs o n is h.token.within le))
  cut_slices p (finish {o} {l}) is le = comma_slices l o _ le (omega arith, omega arith, refl, tt)

  pub slices : (p : Profile) (ks : List Lexeme) → IsCutIn p source ks → AreSlices source 0 ks
  slices p ks cut = cut_slices p cut refl (omega arith)
